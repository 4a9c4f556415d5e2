-- One building month (document 01, "Steps of a month"): weights, steps, refusals 8 to 12, the statement, its unrounded portions and its laws.
pub mod Fraction
pub mod Weights
pub mod Steps
pub mod Month
pub mod Portions
pub mod Laws
pub mod Inner
pub mod Cases
