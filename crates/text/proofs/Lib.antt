pub mod Numerals
pub mod Spelled
pub mod Cuts
pub mod Refused
