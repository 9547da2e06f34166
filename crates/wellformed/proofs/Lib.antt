pub mod Places
pub mod AreaLaws
pub mod HolderLaws
pub mod Claims
pub mod Held
pub mod Turn
pub mod Unique
