use Rattle.std.proofs.Common.{◌≡◌, drop}
use Rattle.gltf_findings_lines.specs.Geometry.{with_primitives}
use Rattle.gltf_findings_lines.proofs.geometry.Geometry.add_all.Given as goal

-- what the primitives that are left add gives all
abbrev pub invariant-loop-primitive : goal.invariant-loop-primitive
invariant-loop-primitive l = with_primitives l.accessors l.self (drop l.primitive-index l.primitives) ≡ with_primitives l.accessors l.fn.self l.primitives
