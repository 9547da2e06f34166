pub mod Number
pub mod Gather
pub mod Lines
pub mod Read
pub mod Examples
pub mod Unique
