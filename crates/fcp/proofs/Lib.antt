pub mod Described
pub mod ReadBack
pub mod Buffer
