pub mod Start
pub mod Fit
pub mod Forms
pub mod Active
