pub mod Admitting
pub mod Cells
pub mod Distinct
pub mod Fewer
pub mod Numbering
pub mod Roles
