-- Computed cases.
pub mod Updates
