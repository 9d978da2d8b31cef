pub mod Pieces
pub mod Finding
pub mod Steps
pub mod Laws
mod Rows
