pub mod Turns
pub mod Standing
pub mod Told
pub mod Parting
