pub mod Common
pub mod Lines
pub mod Granted
pub mod Needed
pub mod Done
pub mod Saying
pub mod Segmented
