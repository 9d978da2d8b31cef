pub mod Flags
pub mod Losing
pub mod Alike
pub mod Apart
pub mod Shown
