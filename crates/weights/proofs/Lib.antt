-- Laws that the proofs of the functions share.
pub mod Rows
pub mod Sums
pub mod Tests
pub mod Ready
