pub mod AreaParts
pub mod Claims
