pub mod Offering
pub mod Picking
