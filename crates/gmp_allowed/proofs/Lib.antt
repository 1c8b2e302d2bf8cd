pub mod Adding
pub mod Alike
pub mod Deals
pub mod Results
pub mod Tries
