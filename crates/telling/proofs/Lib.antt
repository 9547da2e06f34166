pub mod Fields
pub mod Looking
pub mod Unique
