pub mod Asked
pub mod Watchers
pub mod Watched
