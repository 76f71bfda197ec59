-- The findings that are left give all pointers.
use Rattle.std.proofs.Common.{◌≡◌, ◌++◌, drop, map, string_bytes}
use Rattle.gltf_findings_lines.specs.Placed.{pointer_in}
use Rattle.gltf_findings_lines.proofs.placed.pointers_of.Given as goal

abbrev pub invariant-loop-one : goal.invariant-loop-one
invariant-loop-one l = map string_bytes l.pointers.items ++ map pointer_in (drop l.one-index l.shown) ≡ map pointer_in l.shown
