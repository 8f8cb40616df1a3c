pub mod HeldLaws
pub mod FindingWalk
pub mod FormTests
pub mod FieldLaws
