pub mod Linear
pub mod ZeroTables
pub mod Remainder
