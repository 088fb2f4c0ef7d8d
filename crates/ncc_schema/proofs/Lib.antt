mod Canonical
pub mod CountField
pub mod CanonicalLength
pub mod Sizes
mod NamesThere
mod Fours
mod BeginsThere
mod Encoding
pub mod Writing
