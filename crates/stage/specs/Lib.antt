pub mod Calls
pub mod First
pub mod SetUp
pub mod States
pub mod Printed
pub mod RunBy
pub mod SheetS
