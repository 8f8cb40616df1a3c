pub mod History
pub mod Useless
pub mod Examples
pub mod Numbers
pub mod Level
pub mod Keeping
