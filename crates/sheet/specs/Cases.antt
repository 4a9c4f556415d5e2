-- Computed cases: samples, tables and runs.
pub mod Samples
pub mod Checks
pub mod Ranges
