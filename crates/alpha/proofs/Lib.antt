pub mod Escapes
pub mod Fill
pub mod ReadBack
