pub mod Posts
pub mod Lines
pub mod History
pub mod Books
