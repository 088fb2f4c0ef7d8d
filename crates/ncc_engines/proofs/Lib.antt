pub mod SentList
pub mod SentVerdict
pub mod SentTable
pub mod Extended
pub mod Picked
