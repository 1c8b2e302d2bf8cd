pub mod Active
pub mod Fitting
pub mod Formed
pub mod Keeping
pub mod Loops
pub mod Whole
