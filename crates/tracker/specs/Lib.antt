pub mod Room
pub mod Held
pub mod Finished
pub mod Fields
pub mod Lines
pub mod Marks
