pub mod Parts
pub mod Holding
pub mod PartScreen
pub mod Heads
pub mod Laws
mod Rows
pub mod PartTexts
mod TextRows
pub mod Heard
pub mod HeardLaws
