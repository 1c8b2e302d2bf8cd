pub mod Masks
pub mod Marking
pub mod Holding
pub mod Moving
