pub mod ReadBack
pub mod KeyFacts
pub mod NamingFacts
pub mod ContentFacts
pub mod KeyOrderFacts
pub mod SameContent
