-- What inner functions promise each other. Nothing in here need be believed.
pub mod Numbers
pub mod Division
pub mod Heat
pub mod Months
pub mod Building
