pub mod Tests
pub mod Multiples
