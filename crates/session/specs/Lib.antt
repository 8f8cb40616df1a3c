pub mod Limits
pub mod Cells
pub mod InOrder
pub mod Parts
pub mod Answers
pub mod Calls
pub mod Effects
pub mod Examples
