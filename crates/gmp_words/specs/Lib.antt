pub mod Said
pub mod Program
pub mod Words
pub mod Runs
