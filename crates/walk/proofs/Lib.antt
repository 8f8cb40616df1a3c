pub mod Says
pub mod LineWalk
