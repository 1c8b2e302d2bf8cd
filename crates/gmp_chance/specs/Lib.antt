pub mod Drawn
pub mod Even
pub mod Ranked
