pub mod Rows
pub mod Buffer
pub mod TakenOut
pub mod Sent
