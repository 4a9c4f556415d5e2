-- Connection power and fees (2026-05; article 3).
pub mod Charges
pub mod Answer
pub mod Laws
pub mod Inner
pub mod Cases
