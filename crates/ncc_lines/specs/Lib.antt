pub mod Words
pub mod Texts
pub mod Verdicts
pub mod Sends
pub mod Refusals
