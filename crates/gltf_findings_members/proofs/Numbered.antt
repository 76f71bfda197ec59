-- Indexes in turn, each listed once.
use Rattle.std.proofs.Common.{◌≡◌, ℕ, ◌+◌, List, [], ◌∷◌, ◌++◌, false, Option, Some, None, option_map, refl, ap, sym, ◌∙◌, subst}
use Rattle.std.specs.Prelude.{if◌then◌else◌, option_and_then}
use Rattle.std.specs.Ordering.{nat_cmp}
use Rattle.std.specs.BTreeSet.{insert_key}
use Rattle.json.specs.Json as tree
use Rattle.serde_json.specs.Data.{Data, Items, no_items, item}
use Rattle.serde_json.specs.Read.{of_json, of_items}
use Rattle.gltf_base.specs.Steps.{Step}
use Rattle.gltf_base.specs.Steps.{item as to_item}
use Rattle.gltf_schema.specs.Read.{whole_number}
use Rattle.gltf_findings_codes.specs.declared.code.Code.TheVariants.{DuplicateElements}
use Rattle.gltf_findings_members.specs.Lists.{is_among, repeat_code, repeated, repeats_from, with_index, with_number}
use Rattle.gltf_findings_members.specs.Noted.{maybe_note}
use Rattle.gltf_findings_members.specs.Quiet.{AreNew, IsNewItem}
use Rattle.gltf_findings_members.proofs.NoneNoted.{both}

pub no_new_items : (before : List ℕ) → AreNew before tree.no_items
no_new_items before at i ds read = let none : no_items ≡ ds = cc in subst (λ x. repeats_from at before i x ≡ []) none refl

new_one : (before after : List ℕ) (n i : ℕ) (at : List Step) (d : Data) (es : Items) → whole_number d ≡ Some n → is_among before n ≡ false → after ≡ insert_key nat_cmp before n
    → repeats_from at after (i + 1) es ≡ [] → repeats_from at before i (item d es) ≡ []
new_one before after n i at d es is new with rest =
    let code : repeat_code before d ≡ None = ap (repeated before) is ∙ ap (λ b. if b then Some DuplicateElements else None) new in
    let next : with_index before d ≡ after = ap (with_number before) is ∙ sym with in
    both (maybe_note (at ++ to_item i ∷ []) (repeat_code before d)) (repeats_from at (with_index before d) (i + 1) es) (ap (maybe_note (at ++ to_item i ∷ [])) code) (subst (λ x. repeats_from at x (i + 1) es ≡ []) (sym next) rest)

pub new_item : (before after : List ℕ) (j : tree.Json) (js : tree.Items) → IsNewItem before j after → AreNew after js → AreNew before (tree.item j js)
new_item before after j js here more at i ds read = by (of_json j) (of_items js) refl refl read
  where
    by : (o : Option Data) (p : Option Items) → of_json j ≡ o → of_items js ≡ p → option_and_then (λ d. option_map (item d) p) o ≡ Some ds → repeats_from at before i ds ≡ []
    by None p e e' h = absurd (cc)
    by (Some d) None e e' h = absurd (cc)
    by (Some d) (Some es) e e' h =
        let same : item d es ≡ ds = cc in
        subst (λ x. repeats_from at before i x ≡ []) same (new_one before after here.0 i at d es (here.1 d e) here.2 here.3 (more at (i + 1) es e'))
