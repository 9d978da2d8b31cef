pub mod Packs
pub mod Steps
pub mod Sendings
pub mod Places
pub mod Plays
pub mod Stretches
pub mod DenseStarts
pub mod Spaced
