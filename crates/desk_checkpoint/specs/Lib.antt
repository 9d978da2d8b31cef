pub mod Items
pub mod Steps
pub mod Going
pub mod FoldingLaws
mod FoldingRows
pub mod Fields
pub mod Parts
pub mod Checkpoints
pub mod Answers
pub mod Readings
pub mod Reads
pub mod Starts
pub mod Text
pub mod HandedOver
pub mod Laws
mod Rows
