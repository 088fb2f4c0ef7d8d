pub mod Listing
pub mod Checking
pub mod Selecting
pub mod Extending
pub mod Converting
pub mod Planning
