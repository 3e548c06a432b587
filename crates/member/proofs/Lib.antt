pub mod Takes
pub mod Ranges
pub mod Answering
pub mod Deciding
pub mod Fresh
pub mod Calling
pub mod Running
