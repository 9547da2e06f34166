pub mod WearSet
pub mod OpenEmpty
