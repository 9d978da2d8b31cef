pub mod Order
pub mod Rooms
pub mod Sound
pub mod Muxes
pub mod Rows
pub mod Fed
