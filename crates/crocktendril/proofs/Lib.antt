pub mod Words
pub mod Demands
pub mod Boundary
