pub mod Read
pub mod Transforms
pub mod Buffers
pub mod Documents
pub mod Glb
pub mod Named
pub mod Roots
pub mod Spans
