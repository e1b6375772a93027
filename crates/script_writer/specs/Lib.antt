pub mod Writing
pub mod Objects
pub mod ReadBack
