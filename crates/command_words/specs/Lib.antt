pub mod Grammar
pub mod Commands
pub mod Counts
pub mod Matches
mod Rows
