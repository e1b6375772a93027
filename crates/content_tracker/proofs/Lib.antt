pub mod Views
pub mod Rows
pub mod Exchanged
pub mod Lines
