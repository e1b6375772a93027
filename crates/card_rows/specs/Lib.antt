pub mod Fetched
pub mod Laws
pub mod Shapes
pub mod Writes
