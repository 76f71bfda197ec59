pub mod Rest
pub mod Stacks
pub mod ToCome
