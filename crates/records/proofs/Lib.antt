pub mod MarkLaws
pub mod WholeLaws
pub mod FrontLaws
