pub mod Counts
pub mod Firsts
pub mod InForce
pub mod Sound
pub mod Steps
