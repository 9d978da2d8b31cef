pub mod Causes
pub mod Refilling
pub mod Opening
pub mod Lines
pub mod Text
pub mod Gathering
pub mod Reading
pub mod Memory
pub mod Files
mod Rows
