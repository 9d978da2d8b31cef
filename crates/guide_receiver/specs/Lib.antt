pub mod Counting
pub mod Dones
pub mod Texts
pub mod Latest
pub mod Heard
pub mod Known
pub mod Guides
mod Rows
