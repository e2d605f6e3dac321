pub mod Answers
pub mod Conditions
pub mod Decided
