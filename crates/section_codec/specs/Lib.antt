pub mod Tables
pub mod Section
pub mod Contents
pub mod Keys
pub mod KeyOrder
pub mod SubTables
pub mod Segments
pub mod Rows
