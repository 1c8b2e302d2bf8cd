pub mod Fair
pub mod Waits
