pub mod Lines
pub mod Fronts
pub mod Sent
pub mod Checked
