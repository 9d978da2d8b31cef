pub mod AnnexC
pub mod DateFacts
pub mod ReadFacts
pub mod RoundTrips
pub mod TextFacts
pub mod Values
