pub mod LaidOut
pub mod Parts
