pub mod EightFields
pub mod FineFields
