pub mod Without
pub mod Marked
pub mod Repeated
