pub mod Lines
pub mod Commands
pub mod CommandBack
pub mod Entries
pub mod Back
mod Rows
