pub mod Lists
pub mod Searches
pub mod Factors
pub mod Ranges
pub mod Offsets
pub mod OneAxis
pub mod InFile
mod Gridded
mod Stretches
mod Joined
mod Answering
pub mod Fitting
mod ValueParts
pub mod Counts
mod Numbers
mod Whole
mod SlabEnds
mod SlabBytes
mod PartPlaces
mod AllParts
mod Calls
mod Apart
mod Blocks
mod Order
mod Examples
