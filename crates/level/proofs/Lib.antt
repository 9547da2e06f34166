pub mod CoreStep
pub mod Reading
pub mod Judging
pub mod Levels
pub mod Unique
