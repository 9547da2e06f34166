pub mod Overlap
pub mod Unique
