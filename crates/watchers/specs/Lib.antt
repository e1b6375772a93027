pub mod Watches
pub mod Watching
