pub mod Turn
pub mod Reads
