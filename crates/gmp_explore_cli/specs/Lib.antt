pub mod Found
pub mod Played
