pub mod Layout
pub mod Votes
pub mod Rows
pub mod Valid
