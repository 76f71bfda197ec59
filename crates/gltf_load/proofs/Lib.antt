pub mod Named
pub mod Reading
pub mod Documents
pub mod Rooted
pub mod Spans
