pub mod PicksRight
pub mod Searches
pub mod Unique
pub mod Alike
