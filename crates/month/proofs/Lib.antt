-- The laws of a month.
pub mod Nearness
pub mod Lists
pub mod Accepted
pub mod Rounding
pub mod Divisions
pub mod Sums
pub mod Laws
pub mod Versions
pub mod Places
pub mod Bounds
pub mod DivisionBounds
