pub mod Reading
pub mod Tests
pub mod Apart
pub mod Unique
