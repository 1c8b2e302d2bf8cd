pub mod Whole
pub mod Building
pub mod Simple
