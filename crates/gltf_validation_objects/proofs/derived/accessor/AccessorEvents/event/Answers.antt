-- Written by tools/derive.py from crates/gltf_parts/src/accessor.rt,
-- crates/gltf_parts/specs/Accessor.antt and tools/derive_exceptions.py. Do not edit.
use Rattle.gltf_base.specs.Steps.{field}
use Rattle.gltf_parts.specs.Accessor.{accessor_members, accessor_rows, sparse_indices_rows, sparse_rows}
use Rattle.gltf_validation_objects.proofs.Leaves.{found_leaf}
use Rattle.gltf_validation_objects.specs.Checklist.{down}
use Rattle.gltf_validation_rules.specs.Rules.{accessor_rule}
use Rattle.std.proofs.Common.{ap}
use Rattle.std.specs.Prelude.{codes}
use Rattle.gltf_validation_objects.proofs.derived.accessor.AccessorEvents.event.Goals as goal

-- The accessor's rule speaks of its view.
pub returns-in-4-clause-comes : goal.returns-in-4-clause-comes
unfolding accessor_rows sparse_rows sparse_indices_rows accessor_members
returns-in-4-clause-comes g c =
    let at = field (codes "bufferView") in
    let context = g.C.HasContext.context c.args.context.now in
    rw c.in-4.is (c.fault_at.ensures context _ (ap (down at)
    (found_leaf (accessor_rule (accessor_members c.args.self.now)) _ at c.data_fault.ensures)))
