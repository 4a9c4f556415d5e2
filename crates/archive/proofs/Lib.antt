-- The theorems about record, writer and reader, and what the code's proofs share.
pub mod Bytes
pub mod Heads
pub mod RoundTrip
pub mod Answers
pub mod Places
pub mod AtCaseA
