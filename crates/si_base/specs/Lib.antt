pub mod Fields
pub mod Crc
pub mod Room
pub mod Rows
