pub mod Bridge
pub mod Entry
pub mod EmptyLines
