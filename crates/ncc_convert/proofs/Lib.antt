pub mod Planned
mod Facing
mod Pieces
mod Going
mod Moved
mod Ending
mod FoundData
mod PieceCounts
mod PiecesLeft
