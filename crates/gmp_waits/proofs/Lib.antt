pub mod Later
