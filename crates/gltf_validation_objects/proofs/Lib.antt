pub mod Past
pub mod Leaves
pub mod Items
pub mod QuietChecklists
