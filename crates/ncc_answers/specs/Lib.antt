pub mod Answers
pub mod Judged
pub mod Shown
pub mod Names
