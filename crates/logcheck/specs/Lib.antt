pub mod Frame
pub mod Logged
pub mod Marked
