pub mod Digits
pub mod Places
pub mod Pieces
pub mod Limbs
pub mod Words
