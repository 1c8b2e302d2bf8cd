pub mod Check
pub mod Cut
