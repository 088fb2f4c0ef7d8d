pub mod DigitTable
pub mod NameTable
pub mod SendingText
