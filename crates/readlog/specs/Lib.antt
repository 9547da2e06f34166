pub mod Reload
pub mod MarkedWritten
