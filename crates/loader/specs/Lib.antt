pub mod Values
pub mod Reading
pub mod Buffer
pub mod Load
