pub mod Found
pub mod Further
pub mod Fields
pub mod Fine
pub mod Laws
mod Rows
