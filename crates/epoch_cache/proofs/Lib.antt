pub mod EachItem
pub mod Listed
pub mod LookUps
pub mod Placed
pub mod Stored
