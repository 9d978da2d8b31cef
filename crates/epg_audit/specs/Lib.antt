pub mod Recorded
pub mod Checks
pub mod Audits
pub mod Ends
pub mod Finds
pub mod Leaves
