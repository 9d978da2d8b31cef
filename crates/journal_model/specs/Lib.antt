pub mod Edits
pub mod Steps
pub mod Raising
pub mod Rows
