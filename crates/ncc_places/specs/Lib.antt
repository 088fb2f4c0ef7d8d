pub mod Order
pub mod Ends
pub mod Words
pub mod Members
pub mod Measuring
pub mod Layouts
