pub mod Written
pub mod Here
pub mod InRange
pub mod Best
pub mod Chunks
