pub mod Shows
pub mod Texts
pub mod Going
