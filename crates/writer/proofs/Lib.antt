pub mod Again
pub mod Short
