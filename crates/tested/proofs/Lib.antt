pub mod Formed
pub mod WritesAndPretends
pub mod WrongCores
pub mod EdgesOnAreas
