pub mod Lines
pub mod Status
