-- The laws of fields, of tables and of parts put in place.
pub mod Field
pub mod Table
pub mod Part
