pub mod Refused
pub mod Scheduled
pub mod Played
