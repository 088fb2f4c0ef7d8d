pub mod GrammarLaws
mod FieldsLaws
mod Exact
mod Judgements
mod ExactLists
mod ExactDims
mod ExactVars
mod ExactHeader
mod BeginFields
pub mod HeaderLaws
mod Recounting
mod Unmarked
mod CanonicalMarks
mod ValuesGathered
mod Ends
mod RefusedKinds
mod OneField
mod TakeField
mod TakePiece
mod WholeItems
mod AtLeast
mod LeastLaws
mod Feeding
mod Expecting
mod Deciding
mod Answering
mod FromSource
mod Nowhere
