pub mod Short
pub mod Shows
pub mod Slips
