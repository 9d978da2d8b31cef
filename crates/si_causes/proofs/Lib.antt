pub mod Bytes
pub mod CauseFacts
pub mod LineFacts
pub mod GatherFacts
pub mod TextFacts
pub mod FileFacts
