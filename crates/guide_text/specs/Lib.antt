pub mod Fields
pub mod Guides
pub mod Laws
mod Rows
