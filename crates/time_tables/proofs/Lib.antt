pub mod Sections
pub mod Offsets
pub mod Loops
