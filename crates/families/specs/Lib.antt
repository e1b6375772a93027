pub mod Plans
pub mod Families
pub mod Contents
pub mod OwnFiles
pub mod Patches
