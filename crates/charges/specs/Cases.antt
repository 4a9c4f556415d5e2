-- Computed cases: samples, tables and runs.
pub mod Charges
