pub mod Present
pub mod Tied
pub mod Served
pub mod Choice
pub mod Shelf
