pub mod Numbering
pub mod Showing
