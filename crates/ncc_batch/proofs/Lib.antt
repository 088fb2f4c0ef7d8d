pub mod Batches
mod Sources
mod Written
