pub mod Against
pub mod Made
