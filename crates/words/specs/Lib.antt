pub mod Begins
pub mod Cursor
pub mod Integer
pub mod Split
