pub mod Fields
pub mod Numbers
pub mod Groups
pub mod Lines
pub mod Going
pub mod Records
pub mod Ahead
pub mod Reads
mod Rows
