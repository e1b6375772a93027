pub mod Names
pub mod Followed
pub mod Told
pub mod Placed
pub mod Measure
pub mod Progress
pub mod Laws
