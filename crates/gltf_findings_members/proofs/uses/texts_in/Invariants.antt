-- A text is among those that were added or those that are left.
use Rattle.std.proofs.Common.{◌≡◌, ℕ, List, drop}
use Rattle.std.specs.Prelude.{◌||◌}
use Rattle.std.specs.BTreeSet.{contains_text}
use Rattle.serde_json.specs.View.{items_view}
use Rattle.gltf_findings_members.specs.Uses.{has_text}
use Rattle.gltf_findings_members.proofs.uses.texts_in.Given as goal

abbrev pub invariant-loop-item : goal.invariant-loop-item
invariant-loop-item l = (q : List ℕ) → (contains_text l.used q || has_text q (items_view (drop l.item-index l.items))) ≡ has_text q (items_view l.items)
