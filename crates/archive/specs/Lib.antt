-- The archive record (document 01, "Archive record"): its bytes, its writer, its reader.
pub mod Record
pub mod Writer
pub mod Reader
pub mod Theorems
pub mod Inner
pub mod Cases
