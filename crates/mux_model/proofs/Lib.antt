pub mod Placing
pub mod FedFacts
