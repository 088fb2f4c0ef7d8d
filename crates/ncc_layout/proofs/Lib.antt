pub mod Membership
mod RowMajor
mod Own
mod PlacedFiles
mod Searching
mod Counting
pub mod Positive
mod Products
mod Summing
mod Sharing
mod Indexing
mod TestsOfRules
pub mod LeastBegins
mod EitherFault
mod FirstFaults
mod Laying
mod OneFault
mod Neighbours
mod RecordWindows
mod StandardRules
mod Lengthening
mod OneMore
pub mod OneMoreRoom
mod BeforeEnd
pub mod StandardPlaces
pub mod VersionFits
pub mod ShapesInFile
mod NextPlaces
