pub mod DetailsBack
mod Lines
pub mod LocalLines
