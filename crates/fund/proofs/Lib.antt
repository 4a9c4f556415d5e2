pub mod ByUnit
pub mod Answers
pub mod Places
pub mod EveryList
pub mod Instance
