pub mod Counts
pub mod Lists
pub mod Texts
pub mod Kept
pub mod OperationsKept
pub mod RulesKept
pub mod Fits
