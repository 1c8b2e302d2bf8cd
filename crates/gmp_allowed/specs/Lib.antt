pub mod Allowed
pub mod Tried
