pub mod LastDigit
pub mod Carries
