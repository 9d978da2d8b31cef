pub mod Thinned
pub mod ThinnedAirLaws
pub mod Heard
pub mod Aired
pub mod PartLaws
mod Rows
