-- Laws that other crates cite, then those of the check's own proofs.
pub mod Views
pub mod Inside
pub mod Passed
pub mod Rules
pub mod Chains
pub mod RowViews
pub mod Units
pub mod Fits
pub mod Amounts
pub mod Verdict
mod Fields
mod Narrow
mod Walk
pub mod Places
