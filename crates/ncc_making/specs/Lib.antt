pub mod Conversions
pub mod Making
