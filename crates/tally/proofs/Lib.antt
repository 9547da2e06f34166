pub mod Numbering
pub mod Unique
