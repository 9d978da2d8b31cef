pub mod Turns
pub mod Passes
pub mod Follows
pub mod Ahead
pub mod Reading
