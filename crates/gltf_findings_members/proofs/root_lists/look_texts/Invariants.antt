-- The texts so far stand in front of those that are left, and are in the set.
use Rattle.std.proofs.Common.{◌≡◌, false, length, Some}
use Rattle.std.specs.BTreeSet.{contains_text}
use Rattle.json.specs.Json.{Items, no_items, value}
use Rattle.serde_json.specs.Data as json
use Rattle.serde_json.specs.Read.{of_items}
use Rattle.gltf_schema.specs.declared.outline.Shape.TheVariants.{Text}
use Rattle.gltf_findings_members.specs.Format.{Format}
use Rattle.gltf_findings_members.specs.Quiet.{AreQuietItems}
use Rattle.gltf_findings_members.proofs.Listing.{EndsIn}
use Rattle.gltf_findings_members.proofs.Turning.{ItemsFrom}
use Rattle.gltf_findings_members.proofs.root_lists.look_texts.Given as goal

abbrev pub invariant-items : goal.invariant-items
invariant-items l =
    (before : Items → Items) × ItemsFrom (value l.depth) l.initial.reader l.reader before
    × ((f : Format) (js : Items) → AreQuietItems f (Some Text) js → AreQuietItems f (Some Text) (before js))
    × ((js : Items) (all : json.Items) → of_items (before js) ≡ Some all → EndsIn (contains_text l.texts) js all)
    × ((js : Items) → (js ≡ no_items → ⊥) → before js ≡ no_items → ⊥)
    × (l.is_empty ≡ false → (js : Items) → before js ≡ no_items → ⊥)

abbrev pub decreases-items : goal.decreases-items
decreases-items l = length l.reader
