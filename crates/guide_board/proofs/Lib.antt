pub mod Posts
pub mod Times
pub mod Adding
pub mod Sheets
pub mod Moves
