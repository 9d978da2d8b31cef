pub mod Whys
pub mod Faults
pub mod Notings
pub mod Heads
pub mod Held
pub mod Walks
pub mod Sound
pub mod Laws
pub mod Whole
pub mod Pieces
pub mod ReportLaws
mod Rows
