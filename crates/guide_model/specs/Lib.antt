pub mod Coding
pub mod Control
pub mod Descriptors
pub mod Stores
pub mod Decoding
pub mod Cutting
pub mod TextRows
pub mod Genres
mod GenreRows
