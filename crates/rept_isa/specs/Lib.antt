pub mod Numbers
pub mod Operands
pub mod Range
pub mod Rows
pub mod Reading
pub mod Words
pub mod Texts
pub mod Written
