pub mod AsCalls
pub mod Leaves
pub mod Refuses
pub mod CountsUp
pub mod Levels
pub mod Ignoring
pub mod AtC
