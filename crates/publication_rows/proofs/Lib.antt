pub mod BookFacts
