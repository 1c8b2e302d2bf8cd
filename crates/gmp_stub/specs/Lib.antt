pub mod Boards
pub mod Rows
