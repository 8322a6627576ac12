pub mod Replies
pub mod Stepping
pub mod Listing
