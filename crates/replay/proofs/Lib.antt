pub mod Marks
pub mod Left
pub mod Rounds
pub mod Taken
pub mod Turns
pub mod Ends
