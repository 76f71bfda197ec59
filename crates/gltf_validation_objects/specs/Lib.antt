pub mod Checklist
pub mod ChecklistOf
pub mod MemberNames
pub mod References
pub mod ValueRefs
pub mod Moves
