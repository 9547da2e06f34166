pub mod Field
pub mod Part
pub mod Table
