pub mod Explained
pub mod Trail
