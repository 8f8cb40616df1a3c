pub mod Beside
pub mod FeedLaws
pub mod Feeding
pub mod Settled
