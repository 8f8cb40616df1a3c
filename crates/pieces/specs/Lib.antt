pub mod Step
pub mod Parts
pub mod Pieces
pub mod Longest
