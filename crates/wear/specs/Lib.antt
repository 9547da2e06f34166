pub mod Wear
pub mod OnBytes
pub mod Contract
pub mod Asked
