-- What inner functions promise each other. Nothing in here need be believed.
pub mod Metered
pub mod By
pub mod Totals
pub mod Months
