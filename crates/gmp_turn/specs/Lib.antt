pub mod Turns
pub mod Surrenders
pub mod Acts
pub mod Values
pub mod Whole
