pub mod Meaning
pub mod Bytes
pub mod Statements
