pub mod Copies
pub mod Stock
pub mod Put
pub mod Events
pub mod Worlds
