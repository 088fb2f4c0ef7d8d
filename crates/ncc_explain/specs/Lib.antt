pub mod Rules
pub mod Likeness
pub mod Sites
pub mod Words
pub mod Members
pub mod Explaining
