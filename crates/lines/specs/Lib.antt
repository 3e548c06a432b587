pub mod Between
pub mod Fields
pub mod Events
pub mod Answers
pub mod Reads
