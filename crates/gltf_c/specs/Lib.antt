pub mod Calls
pub mod Filled
