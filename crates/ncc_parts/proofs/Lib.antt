mod Spelling
mod Locating
pub mod ExtentsAt
mod BrokenRules
mod Complete
mod BeginFields
mod Labels
mod Runs
mod Within
mod Remaining
mod Awaited
mod AwaitedNames
mod NextPart
mod ToldState
