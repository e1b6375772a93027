pub mod Effect
pub mod Basic
pub mod Numbers
pub mod Touched
pub mod Fine
pub mod Rows
pub mod Laws
