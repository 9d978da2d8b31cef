pub mod Outcomes
pub mod Lines
pub mod Packets
pub mod Listeners
