-- What inner functions promise each other. Nothing in here need be believed.
pub mod Codes
pub mod Fields
pub mod FieldRanges
pub mod Fits
pub mod Places
pub mod Rows
pub mod Sums
pub mod Views
