pub mod Clock
pub mod Plays
pub mod Step
