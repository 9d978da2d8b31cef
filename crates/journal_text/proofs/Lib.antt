pub mod LineFacts
pub mod LineBack
pub mod CleanRows
pub mod RowBack
pub mod PlainFields
pub mod CommandFields
pub mod CommandBack
mod Quoting
pub mod EntryRows
pub mod EntryBack
pub mod Journals
