-- The laws of dividing, and what the proofs of its functions share.
pub mod Counting
pub mod Near
pub mod Takers
pub mod Giving
pub mod Leftover
pub mod Laws
pub mod Tied
pub mod Alike
pub mod Turns
pub mod Halves
pub mod Wide
pub mod Sums
pub mod Zips
pub mod Replacing
pub mod Plan
