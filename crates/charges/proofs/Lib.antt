-- The laws of the fixed charges.
pub mod ByUnit
pub mod Weights
pub mod Answers
pub mod Laws
mod AtCase
pub mod Places
