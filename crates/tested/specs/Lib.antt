pub mod Core
pub mod WrongCores
pub mod EdgesOnAreas
