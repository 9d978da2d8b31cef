pub mod Codes
pub mod Texts
pub mod Rates
pub mod Told
pub mod Ends
pub mod Asked
