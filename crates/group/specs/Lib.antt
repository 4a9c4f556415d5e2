-- Several buildings on one meter (2026-04).
pub mod Group
pub mod Answer
pub mod Laws
pub mod Inner
pub mod Cases
