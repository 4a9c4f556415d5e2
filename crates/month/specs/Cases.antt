-- Computed cases: samples, tables and runs.
pub mod Months
pub mod Portions
