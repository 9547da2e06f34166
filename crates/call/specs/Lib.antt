pub mod Decode
pub mod Answer
