-- Laws that the proofs of the functions share.
pub mod Dividing
pub mod Order
pub mod Pool
pub mod Writing
pub mod Parts
pub mod Answers
pub mod Charging
pub mod Places
