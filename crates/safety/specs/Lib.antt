pub mod Alone
pub mod Said
