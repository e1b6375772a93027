pub mod Alphabet
pub mod Names
