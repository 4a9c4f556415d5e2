-- The efficiency fund (2026-07; articles 18 and 19): a month's fees, the calls, the plain fund, and what is promised over every list of calls.
pub mod Fees
pub mod Answer
pub mod PlainFund
pub mod Theorem
pub mod Inner
pub mod Cases
