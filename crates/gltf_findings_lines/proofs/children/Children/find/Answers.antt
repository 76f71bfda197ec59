-- The item of a number is at its place.
use Rattle.std.proofs.Common.{◌+◌, sym, ap, ◌∙◌, subst}
use Rattle.std.specs.Prelude.{option_and_then, slice_get}
use Rattle.gltf_findings_lines.specs.Places.{child_at, item_at}
use Rattle.gltf_findings_lines.specs.Children.{AreChildren, IsChild}
use Rattle.gltf_findings_lines.proofs.Walking.{item_found}
use Rattle.gltf_findings_lines.proofs.children.Children.find.Goals as goal

pub returns-in_ok-index_of-in-Items : goal.returns-in_ok-index_of-in-Items
returns-in_ok-index_of-in-Items c = λ nodes at j are.
    let items = subst (AreChildren nodes at j) c.in-Items.is are in
    let i = c.in_ok-index_of-in-Items.field-0 in
    let js = items.0 in
    let numbered = sym (c.index_of.ensures) ∙ c.in_ok-index_of-in-Items.was in
    let due = ap (child_at at c.args.part.now) items.1 ∙ ap (option_and_then (λ k. item_at (at + 1) k js)) numbered in
    let found = c.item.ensures ∙ ap (λ l. slice_get l i) c.deref.ensures.value in
    subst (λ o. IsChild nodes o (child_at at c.args.part.now j)) (sym found)
    (subst (IsChild nodes (slice_get c.in-Items.starts.items i)) (sym due) (item_found nodes (at + 1) js c.in-Items.starts.items i items.2))
