pub mod Header
pub mod Answered
pub mod Calls
pub mod Runs
pub mod Shown
