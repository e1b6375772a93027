pub mod Changes
pub mod Mailboxes
pub mod ScriptWatches
