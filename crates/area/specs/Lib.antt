pub mod Good
pub mod InPlace
