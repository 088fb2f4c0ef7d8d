pub mod Ordered
mod Ending
pub mod OneLayout
