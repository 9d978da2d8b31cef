pub mod Spelled
pub mod Plays
