-- The year book (document 01, "Year book"): the calls, the plain book, the book in a lent list with the year sums beside it (2026-02), and what is promised over every list of calls.
pub mod Calls
pub mod PlainBook
pub mod LentBook
pub mod Matches
pub mod Theorem
pub mod Inner
pub mod Cases
