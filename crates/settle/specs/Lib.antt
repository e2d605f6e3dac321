pub mod Entries
pub mod Moves
pub mod Settled
