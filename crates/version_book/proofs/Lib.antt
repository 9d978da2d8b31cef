pub mod Versions
pub mod SlotFacts
pub mod KeptEntries
pub mod Airs
