pub mod Filling
pub mod Starting
pub mod Clauses
pub mod LineEnds
pub mod Numbers
