pub mod Admitted
pub mod Enrolled
pub mod Index
pub mod Slots
