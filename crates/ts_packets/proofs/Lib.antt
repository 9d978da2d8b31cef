pub mod Filling
pub mod Carrying
pub mod Dense
pub mod Headers
pub mod Stamps
pub mod KeptCounters
pub mod Joined
pub mod WholePackets
