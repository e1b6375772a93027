pub mod Values
pub mod Opening
pub mod Agreement
