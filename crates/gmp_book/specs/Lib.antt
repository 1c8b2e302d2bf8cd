pub mod Slots
pub mod Replies
pub mod Book
pub mod Kinds
pub mod Hands
pub mod Went
pub mod Returns
pub mod InHand
