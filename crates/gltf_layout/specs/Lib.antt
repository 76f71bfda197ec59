pub mod Sizes
pub mod Fits
pub mod Stored
pub mod Places
pub mod Faults
pub mod Layouts
