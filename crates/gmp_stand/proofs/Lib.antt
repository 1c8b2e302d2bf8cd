pub mod Turning
pub mod Bits
pub mod Numbers
pub mod Opening
