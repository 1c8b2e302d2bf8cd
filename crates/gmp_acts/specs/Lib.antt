pub mod Hands
pub mod System
pub mod Acts
pub mod Kept
pub mod Sound
pub mod Headline
pub mod Lookouts
