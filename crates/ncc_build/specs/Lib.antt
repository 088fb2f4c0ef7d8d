pub mod Fill
pub mod Dataset
pub mod File
pub mod Building
pub mod Judging
pub mod Tables
pub mod Builds
