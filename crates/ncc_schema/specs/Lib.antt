pub mod Schema
pub mod Header
pub mod Names
pub mod Device
pub mod Source
pub mod Sink
pub mod Fuse
