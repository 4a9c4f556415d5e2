-- Dividing a whole by weights (document 01, "Dividing"): the largest-remainder method.
pub mod Shares
pub mod Fair
pub mod Inner
pub mod Cases
