pub mod Lists
pub mod Sent
pub mod Worlds
pub mod Chains
pub mod Managing
pub mod Told
pub mod Opened
