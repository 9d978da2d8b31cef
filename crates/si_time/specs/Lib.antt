pub mod Dates
pub mod Moments
pub mod Readings
pub mod Rows
