pub mod Number
pub mod Line
pub mod Gather
pub mod Spelt
pub mod Read
