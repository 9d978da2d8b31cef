pub mod Loops
pub mod Split
pub mod ServiceEntries
pub mod EventEntries
pub mod Fields
pub mod Pieces
