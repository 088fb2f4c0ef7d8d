pub mod Found
pub mod Copying
pub mod Converting
pub mod Lines
