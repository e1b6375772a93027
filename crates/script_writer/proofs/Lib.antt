pub mod Floats
pub mod Depth
pub mod Values
pub mod Cards
pub mod Operations
pub mod Parts
pub mod Scripts
