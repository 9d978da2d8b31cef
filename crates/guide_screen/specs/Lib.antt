pub mod View
pub mod Holding
pub mod Reading
pub mod Needs
pub mod Screen
pub mod Rows
