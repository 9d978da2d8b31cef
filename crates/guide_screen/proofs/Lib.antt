pub mod Hearing
pub mod Ordering
pub mod Lists
pub mod Pids
