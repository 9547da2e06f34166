pub mod Replies
pub mod Unknown
pub mod Unique
pub mod Numbers
