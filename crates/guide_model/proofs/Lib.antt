pub mod PlainFacts
mod PlainTable
pub mod RoundTrip
pub mod CutFacts
pub mod PieceFacts
pub mod LenFacts
mod Joined
pub mod SoundFacts
pub mod HexTexts
