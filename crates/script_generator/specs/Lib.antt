pub mod Draws
pub mod Generated
pub mod Working
pub mod Walked
pub mod Samples
