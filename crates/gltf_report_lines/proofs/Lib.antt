pub mod RunLemmas
pub mod Escapes
pub mod Printed
