pub mod Ends
pub mod Openings
pub mod Played
pub mod Search
pub mod Traced
