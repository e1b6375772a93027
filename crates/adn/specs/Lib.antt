pub mod Book
pub mod Changed
