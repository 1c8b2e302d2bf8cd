pub mod Common
pub mod Arrivals
pub mod Closing
pub mod Ties
pub mod Choices
