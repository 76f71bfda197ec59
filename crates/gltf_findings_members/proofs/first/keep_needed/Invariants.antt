-- The names of the rows so far are kept, and those that were there.
use Rattle.std.proofs.Common.{◌≡◌, ℕ, List, ◌<◌, Some, true}
use Rattle.std.specs.Prelude.{◌||◌, slice_get}
use Rattle.std.specs.BTreeSet.{contains_text}
use Rattle.gltf_schema.specs.declared.outline.Member.{Member}
use Rattle.gltf_findings_members.specs.Document.{KeepsLoud, is_needed_name}
use Rattle.gltf_findings_members.specs.Rows.{is_needed}
use Rattle.gltf_findings_members.proofs.first.keep_needed.Given as goal

abbrev pub invariant-loop-i : goal.invariant-loop-i
invariant-loop-i l =
    KeepsLoud (contains_text l.keep) l.initial.keep
    × ((k : ℕ) (m : Member) → k < l.i → slice_get l.rows k ≡ Some m → is_needed m ≡ true → contains_text l.keep m.name.now ≡ true)
    × ((q : List ℕ) → contains_text l.keep q ≡ true → (contains_text l.initial.keep q || is_needed_name l.rows q) ≡ true)
