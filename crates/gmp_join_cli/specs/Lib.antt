pub mod Join
pub mod Takes
