pub mod Editing
pub mod Rows
