pub mod Offset
pub mod Parts
pub mod InLog
pub mod PutAnew
pub mod Unique
