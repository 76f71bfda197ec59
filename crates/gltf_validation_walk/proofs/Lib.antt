pub mod ChecklistReports
pub mod ChecklistHeight
pub mod Stacks
pub mod Begun
pub mod Moves
pub mod AttributesBehind
