pub mod Reading
pub mod Steps
pub mod State
pub mod Short
pub mod Whole
pub mod Unique
pub mod States
pub mod SheetS
