pub mod WhyFacts
mod SaidFacts
mod LineFacts
mod Steps
mod ItemReads
mod DayReads
mod RowReads
mod HeadFacts
mod Numbered
pub mod NoteReads
mod Exact
pub mod NotingsAhead
pub mod Following
pub mod ReportLineFacts
pub mod Longest
pub mod PieceFacts
