pub mod Parts
pub mod Reading
pub mod Selects
pub mod Asking
