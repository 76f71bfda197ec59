-- Written by tools/derive.py from crates/gltf_scene/src/extensions/scene/khr_lights_punctual.rt,
-- crates/gltf_scene/specs/Light.antt and tools/derive_exceptions.py. Do not edit.
use Rattle.gltf_base.specs.Steps.{field}
use Rattle.gltf_scene.specs.Light.{light_members, light_rows, spot_rows}
use Rattle.gltf_validation_objects.proofs.Leaves.{found_leaf}
use Rattle.gltf_validation_objects.specs.Checklist.{down}
use Rattle.gltf_validation_rules.specs.Rules.{light_rule}
use Rattle.std.proofs.Common.{ap}
use Rattle.std.specs.Prelude.{codes}
use Rattle.gltf_validation_objects.proofs.derived.light.LightEvents.event.Goals as goal

-- The light's rule speaks of its cone.
pub returns-in-1-clause-comes : goal.returns-in-1-clause-comes
unfolding light_rows spot_rows light_members
returns-in-1-clause-comes g c =
    let at = field (codes "spot") in
    let context = g.C.HasContext.context c.args.context.now in
    rw c.in-1.is (c.fault_at.ensures context _ (ap (down at)
    (found_leaf (light_rule (light_members c.args.self.now)) _ at c.spot_fault.ensures)))
