pub mod Written
pub mod InParts
pub mod OneRun
pub mod Held
pub mod Owned
