pub mod SlotParts
