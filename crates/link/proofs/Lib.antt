pub mod Selections
pub mod Steps
pub mod Tracking
