pub mod Settings
mod Limits
mod Spelled
mod Found
mod Walking
mod Taking
mod Getting
mod Counting
