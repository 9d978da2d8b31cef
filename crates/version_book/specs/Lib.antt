pub mod Airings
pub mod Book
pub mod Laws
pub mod Slots
pub mod Rows
