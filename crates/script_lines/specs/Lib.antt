pub mod Items
pub mod Heads
pub mod Edits
pub mod EditFields
pub mod Controls
pub mod Outcomes
pub mod Script
pub mod Laws
mod Rows
