pub mod Subcommands
pub mod Spelling
pub mod CommandLine
