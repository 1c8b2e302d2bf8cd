pub mod Stops
pub mod Behind
