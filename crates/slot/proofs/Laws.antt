-- The laws of the operations, for those who call them.
pub mod Operations
pub mod Fields
