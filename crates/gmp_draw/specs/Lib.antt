pub mod Svg
pub mod Position
