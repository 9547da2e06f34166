pub mod Level
pub mod Answer
pub mod Reached
