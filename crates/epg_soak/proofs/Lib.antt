pub mod Closed
pub mod Chains
pub mod PlainRows
pub mod MadeLines
pub mod Reading
pub mod MadeEdits
pub mod ItemLines
pub mod WorkloadEvents
pub mod Days
pub mod WorkloadJournals
pub mod Counts
pub mod Callers
pub mod Moments
pub mod WorkloadScreenEvents
mod Stops
pub mod Texts
pub mod WorkloadRunJournals
mod JournalCounts
pub mod SoakFacts
