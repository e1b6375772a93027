pub mod Commands
pub mod Exchanges
pub mod Selected
