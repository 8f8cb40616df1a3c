pub mod Joining
pub mod Lists
pub mod Sorting
