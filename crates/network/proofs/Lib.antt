pub mod Bits
pub mod Spans
pub mod Apart
pub mod Agreeing
pub mod Running
pub mod Showing
pub mod Delivering
pub mod Opening
