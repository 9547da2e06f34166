pub mod Did
pub mod Asked
pub mod Guard
