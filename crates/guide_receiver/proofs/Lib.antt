pub mod Shown
pub mod Reading
pub mod Dones
pub mod Latest
pub mod Over
mod Rounds
