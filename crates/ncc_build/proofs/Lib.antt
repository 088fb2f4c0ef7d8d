mod Anew
mod Builders
pub mod BuiltFacts
mod Lists
mod NewItems
mod NewNames
mod Passing
mod Refusals
pub mod SoundProps
pub mod Tables
