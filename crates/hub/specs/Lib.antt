pub mod Decided
pub mod Short
pub mod Hub
pub mod DueSoFar
pub mod Parts
pub mod Settled
pub mod Ready
pub mod Performing
