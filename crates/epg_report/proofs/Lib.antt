pub mod Reporting
pub mod Asking
