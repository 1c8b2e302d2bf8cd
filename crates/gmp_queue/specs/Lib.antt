pub mod Queue
pub mod Ends
pub mod Opened
pub mod Closed
pub mod Steps
