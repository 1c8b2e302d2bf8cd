pub mod Turn
pub mod Local
pub mod Drawn
pub mod AtQueue
