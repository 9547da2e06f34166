pub mod Legal
pub mod Value
