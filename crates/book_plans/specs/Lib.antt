pub mod Phonebook
pub mod Law
