-- The laws of a group.
pub mod Lists
pub mod Answers
pub mod Bounds
pub mod Readings
pub mod Bills
pub mod Divisions
pub mod Near
pub mod Statements
pub mod Laws
pub mod Parts
mod Surveys
pub mod Passing
pub mod Charges
pub mod Adjusting
pub mod Outcomes
pub mod OneBuilding
pub mod Places
mod Written
