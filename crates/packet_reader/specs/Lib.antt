pub mod Recordings
pub mod Reading
mod Rows
