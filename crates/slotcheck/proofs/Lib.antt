pub mod NumberLaws
pub mod SlotLaws
pub mod SlotPlaces
pub mod Unique
