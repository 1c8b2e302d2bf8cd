pub mod Doing
pub mod Text
pub mod Spoken
pub mod Stated
pub mod Told
pub mod Lines
