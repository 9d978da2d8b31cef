pub mod Placement
pub mod Schedule
pub mod Laws
pub mod Rows
