pub mod Journal
pub mod Knowledge
pub mod Rows
pub mod Rule
