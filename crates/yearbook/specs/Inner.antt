-- What inner functions promise each other. Nothing in here need be believed.
pub mod Sound
pub mod Bring
