pub mod Applications
pub mod Digits
pub mod Fields
pub mod Reads
