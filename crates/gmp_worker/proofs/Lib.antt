pub mod Boxes
pub mod InHand
pub mod Tries
pub mod Turned
