pub mod Groups
pub mod Pick
pub mod PicksRight
