pub mod Pacing
pub mod Spreading
pub mod Frames
pub mod Rates
pub mod Alone
pub mod Spans
pub mod Courses
pub mod EachTurn
