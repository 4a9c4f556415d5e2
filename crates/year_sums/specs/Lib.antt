-- 2026-02 Year sums kept beside the book: what an update does to the list, and refusal 19.
pub mod YearSums
pub mod Inner
pub mod Cases
