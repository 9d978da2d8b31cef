pub mod RecordingFacts
pub mod Giving
