pub mod Keeping
pub mod Words
pub mod Checking
