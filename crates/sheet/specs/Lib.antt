pub mod Output
pub mod Parts
pub mod Whole
pub mod States
pub mod SheetS
