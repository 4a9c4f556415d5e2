-- What the code of sums, weights and refusals 8 to 12 promises, in terms of the month's definition.
pub mod Inner
