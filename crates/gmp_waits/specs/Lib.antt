pub mod Doing
pub mod Lately
pub mod Waits
