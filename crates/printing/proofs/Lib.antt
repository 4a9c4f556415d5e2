pub mod Placing
pub mod Decimals
pub mod Lines
pub mod Answers
pub mod Longer
