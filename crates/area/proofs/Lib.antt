pub mod Good
pub mod SlotRead
pub mod Logged
pub mod Unique
