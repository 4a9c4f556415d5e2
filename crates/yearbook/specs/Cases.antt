-- Computed cases: samples, tables and runs; the order of refusals on lent lists; what calls leave in them, in literal numbers; an update of the sums, and 19.
pub mod Runs
mod Orders
pub mod Written
pub mod Sums
