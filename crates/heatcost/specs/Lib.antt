-- What the calls for other languages answer.
pub mod Answer
pub mod Year
pub mod Cases
