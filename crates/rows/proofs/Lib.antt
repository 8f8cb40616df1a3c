pub mod FormCells
pub mod RowLaws
pub mod TermLaws
pub mod SumLaws
pub mod Value
pub mod Reaching
pub mod Sound
pub mod Remainders
