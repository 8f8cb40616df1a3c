pub mod Filler
pub mod InsertLaws
pub mod JoinLaws
pub mod LessLaws
pub mod SortLaws
