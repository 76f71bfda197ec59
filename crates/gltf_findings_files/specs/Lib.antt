pub mod Chunks
pub mod Findings
pub mod Found
pub mod Rules
pub mod Containers
pub mod Objects
pub mod Uris
