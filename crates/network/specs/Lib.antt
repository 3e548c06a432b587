pub mod Members
pub mod Seats
pub mod Parts
pub mod Memory
pub mod Running
pub mod Calls
pub mod Begins
pub mod Errors
