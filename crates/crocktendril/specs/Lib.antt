pub mod Contract
pub mod Demands
