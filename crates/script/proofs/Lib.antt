pub mod Files
pub mod Reading
pub mod Printing
pub mod ReadBack
