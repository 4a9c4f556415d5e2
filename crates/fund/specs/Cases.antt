-- Computed cases: fees, calls, a run.
pub mod Fees
pub mod Answers
pub mod Runs
