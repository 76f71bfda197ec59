-- The indexes so far stand in front of those that are left, and all are new if those are.
use Rattle.std.proofs.Common.{◌≡◌, [], true, false, length, Some}
use Rattle.json.specs.Json.{Items, no_items, value}
use Rattle.gltf_schema.specs.declared.outline.Shape.TheVariants.{Whole32}
use Rattle.gltf_findings_members.specs.Format.{Format}
use Rattle.gltf_findings_members.specs.Quiet.{AreNew, AreQuietItems}
use Rattle.gltf_findings_members.proofs.Turning.{ItemsFrom}
use Rattle.gltf_findings_members.proofs.listed.look_indexes.Given as goal

abbrev pub invariant-items : goal.invariant-items
invariant-items l =
    (before : Items → Items) × ItemsFrom (value l.depth) l.initial.reader l.reader before
    × (l.are_quiet ≡ true → (js : Items) → AreNew l.before.keys js → AreNew [] (before js))
    × (l.are_quiet ≡ true → (js : Items) (f : Format) → AreQuietItems f (Some Whole32) js → AreQuietItems f (Some Whole32) (before js))
    × ((js : Items) → (js ≡ no_items → ⊥) → before js ≡ no_items → ⊥)
    × (l.is_empty ≡ false → (js : Items) → before js ≡ no_items → ⊥)

abbrev pub decreases-items : goal.decreases-items
decreases-items l = length l.reader
