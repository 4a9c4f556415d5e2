-- What the code of a month promises, in terms of the month's definition.
pub mod Settle
pub mod Inner
