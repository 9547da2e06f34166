pub mod History
pub mod AreaHistory
pub mod Slips
pub mod Keeps
pub mod Frame
pub mod InTheWay
