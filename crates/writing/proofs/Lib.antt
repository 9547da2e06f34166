pub mod Room
pub mod Ways
