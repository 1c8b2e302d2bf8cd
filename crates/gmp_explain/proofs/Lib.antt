pub mod PartLemmas
pub mod Parts
pub mod Places
pub mod ReplyWords
pub mod Spoken
pub mod Texts
