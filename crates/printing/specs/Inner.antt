-- What inner functions promise each other. Nothing in here need be believed.
pub mod Placed
pub mod Lines
pub mod Outcomes
pub mod Sinks
pub mod Counters
pub mod Writers
