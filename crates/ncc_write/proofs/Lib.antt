mod FillValues
mod ManyFills
mod Streaming
mod Slabs
mod Rounds
mod Positions
mod SlabOrders
mod NextVarSlabs
mod Going
pub mod Refusing
mod AllFills
mod Ends
mod ReadBack
mod Laying
mod Telling
pub mod Taking
pub mod Ending
mod Fronts
pub mod Growing
mod OpenSizes
mod Parts
mod Paddings
mod FileLengths
mod Pieces
mod SlabPlaces
mod Indices
mod Holding
mod Same
mod OneDatasets
mod BeginsInOrder
mod NamesKept
mod NoNotes
mod Passing
mod Completing
mod Behind
mod Facing
mod Filling
mod Pages
mod RecordParts
pub mod MoreRecords
pub mod MoreFills
mod HeldRecords
mod PackedRecords
mod GrownFiles
mod StillRead
mod FoundSlabs
pub mod FoundDatasets
pub mod FoundValues
mod OpenedDatasets
pub mod SlabsAt
pub mod NextSlabs
pub mod NextPieces
pub mod FileSlabs
pub mod TakenIn
mod PlannedSo
mod TripValues
mod TripReads
mod TripNext
mod TripEnds
mod TripSlabs
mod TripPuts
