pub mod Flags
pub mod Tables
pub mod Kept
pub mod Replies
