pub mod Due
pub mod Listing
pub mod Moves
pub mod Startable
pub mod Timed
pub mod Waking
