pub mod Tables
pub mod Programs
pub mod Votes
pub mod Counting
pub mod Ranges
