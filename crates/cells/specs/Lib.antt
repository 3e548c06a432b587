pub mod Cells
pub mod Proposals
pub mod Blocks
