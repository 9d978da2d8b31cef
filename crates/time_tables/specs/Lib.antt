pub mod Tdt
pub mod LocalOffsets
pub mod Tot
pub mod Rows
