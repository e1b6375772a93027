pub mod Fuel
pub mod Written
