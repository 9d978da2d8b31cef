pub mod RowFacts
pub mod Steps
pub mod Passing
pub mod Finds
pub mod Going
pub mod PieceBytes
pub mod Airs
