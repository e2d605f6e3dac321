pub mod Transcript
pub mod State
pub mod Turns
pub mod Roster
pub mod Listed
