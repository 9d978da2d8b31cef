pub mod Lists
pub mod Order
pub mod Cutting
pub mod Numbers
pub mod Few
pub mod EventsOf
