pub mod Queue
pub mod Packing
pub mod Sending
pub mod Laying
pub mod Spacing
pub mod Playing
pub mod Rows
