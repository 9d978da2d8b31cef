pub mod CleanText
pub mod Clean
pub mod CleanBytes
pub mod CleanLines
mod Unquoted
mod PlainParts
pub mod Numerals
pub mod GroupFacts
pub mod Steps
pub mod LastLines
pub mod LineReads
pub mod ValuesAhead
