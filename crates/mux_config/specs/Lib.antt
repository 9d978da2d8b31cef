pub mod Taken
pub mod Descriptions
pub mod Texts
pub mod Kinds
pub mod Reads
mod Rows
mod DescriptionRows
pub mod Laws
mod RoomRows
