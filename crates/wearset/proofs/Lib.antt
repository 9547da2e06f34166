pub mod Before
pub mod Unique
