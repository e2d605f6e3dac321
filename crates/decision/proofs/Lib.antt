pub mod Outcomes
pub mod Rulings
