pub mod Lists
pub mod Prints
pub mod Runs
