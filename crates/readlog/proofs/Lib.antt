pub mod Fill
pub mod InArea
pub mod Unique
