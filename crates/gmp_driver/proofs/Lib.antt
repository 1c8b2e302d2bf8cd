pub mod Local
pub mod Naming
pub mod Onward
pub mod OwnQueue
pub mod Parts
pub mod Unfair
pub mod Uses
mod OfRun
