pub mod Parts
pub mod Stands
pub mod Moves
pub mod Events
