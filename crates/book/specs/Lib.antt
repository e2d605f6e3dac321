pub mod Names
pub mod Padded
pub mod Plain
pub mod Kept
pub mod Puts
