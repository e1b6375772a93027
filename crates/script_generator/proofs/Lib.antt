pub mod Names
pub mod Rows
pub mod Keeps
pub mod Slices
pub mod Appended
pub mod Left
pub mod Bounds
