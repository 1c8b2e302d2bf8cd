pub mod Entering
pub mod Hands
pub mod Owning
pub mod Places
pub mod Refusing
pub mod Standing
pub mod Turning
pub mod Turns
