pub mod Outcome
pub mod Output
pub mod Run
pub mod Bytes
pub mod Escaped
pub mod Lines
