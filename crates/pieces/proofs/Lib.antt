pub mod Moving
pub mod Stepping
pub mod RunLaid
pub mod LedgerPieces
pub mod CellPieces
pub mod InPieces
pub mod Room
