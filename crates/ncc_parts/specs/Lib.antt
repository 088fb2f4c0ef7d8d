pub mod Parts
pub mod Breaking
