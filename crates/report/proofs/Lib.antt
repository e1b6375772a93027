pub mod Words
pub mod Forms
pub mod Entries
pub mod Ordered
