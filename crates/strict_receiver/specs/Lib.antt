pub mod Strict
pub mod Earlier
pub mod Standing
pub mod Laws
