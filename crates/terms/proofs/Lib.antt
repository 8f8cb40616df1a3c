pub mod TermParts
pub mod TermTests
pub mod LentTerms
