pub mod Words
pub mod Values
pub mod Apdu
pub mod Stream
pub mod MemoryStream
pub mod Lends
pub mod Reserved
