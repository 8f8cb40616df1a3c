pub mod OnLedger
pub mod Tops
