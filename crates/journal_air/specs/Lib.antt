pub mod Screen
pub mod PublicationScreenShown
pub mod PublicationScreenLaws
mod PublicationScreenRows
pub mod Published
pub mod AirScreenLaws
pub mod Air
pub mod Laws
mod Rows
pub mod JournalScreenShown
pub mod Heard
pub mod Last
pub mod JournalScreenLaws
pub mod OnAir
pub mod AirOf
pub mod HeardKeys
pub mod SentAir
pub mod Tallied
