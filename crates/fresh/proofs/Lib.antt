pub mod Descriptions
pub mod Parts
pub mod Unique
