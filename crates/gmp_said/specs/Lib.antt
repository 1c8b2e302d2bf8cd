pub mod Said
pub mod Standing
