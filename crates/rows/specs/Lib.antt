pub mod Limits
pub mod Row
pub mod Form
pub mod Sum
pub mod Summable
pub mod Conditions
pub mod Truth
