pub mod Words
pub mod Decimals
pub mod Network
