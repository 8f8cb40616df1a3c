pub mod Levels
pub mod Empty
