-- Objects that have members, lists that have items, and the length of lists.
use Rattle.std.proofs.Common.{◌≡◌, ℕ, ◌+◌, ◌==◌, List, Bool, true, false, Some, None, refl, sym, ap, ◌∙◌, arith}
use Rattle.std.specs.Prelude.{if◌then◌else◌}
use Rattle.json.specs.Json as tree
use Rattle.serde_json.specs.Data.{Items, no_items, Members, no_members}
use Rattle.serde_json.specs.Events.{items_len}
use Rattle.serde_json.specs.Read.{of_json, of_items, of_members}
use Rattle.gltf_schema.specs.declared.outline.Member.{Member}
use Rattle.gltf_findings_codes.specs.declared.code.Code.TheVariants.{EmptyEntity}
use Rattle.gltf_findings_members.specs.Empty.{empty_object_code}
use Rattle.gltf_findings_members.specs.Lists.{empty_code, length_code}
use Rattle.gltf_findings_members.specs.Look.{count_of}
use Rattle.gltf_findings_members.specs.Rows.{empty_target_code, is_target}
use Rattle.gltf_findings_members.proofs.NoneInObjects.{one_fills}
use Rattle.gltf_findings_members.proofs.NoneNoted.{next_len}

-- ---- objects

pub filled : (js : tree.Members) → (js ≡ tree.no_members → ⊥) → (ms : Members) → of_members js no_members ≡ Some ms → empty_object_code ms ≡ None
filled tree.no_members some ms read = absurd (some refl)
filled (tree.member k j js) some ms read = one_fills k j js ms read

target_at : (b : Bool) (ms : Members) → (b ≡ true → empty_object_code ms ≡ None) → (if b then empty_object_code ms else None) ≡ None
target_at true ms is = is refl
target_at false ms is = refl

pub filled_target : (rows : List Member) (js : tree.Members) → (is_target rows ≡ true → js ≡ tree.no_members → ⊥) → (ms : Members) → of_members js no_members ≡ Some ms → empty_target_code rows ms ≡ None
filled_target rows js some ms read = target_at (is_target rows) ms (λ is. filled js (some is) ms read)

pub target_filled : (empty : Bool) (rows : List Member) (js : tree.Members) → (empty ≡ true → is_target rows ≡ false) → is_target rows ≡ true → (empty ≡ false → js ≡ tree.no_members → ⊥) → js ≡ tree.no_members → ⊥
target_filled false rows js other target some none = some refl none
target_filled true rows js other target some none = let never : true ≡ false = sym target ∙ other refl in absurd (cc)

-- ---- lists

pub tree_len : (js : tree.Items) (ds : Items) → of_items js ≡ Some ds → items_len ds ≡ count_of js
tree_len tree.no_items ds read = let same : no_items ≡ ds = cc in ap items_len (sym same)
tree_len (tree.item j js) ds read = next_len (count_of js) (of_json j) (of_items js) ds (λ es h. tree_len js es h) read

not_zero : (n m : ℕ) → n ≡ m + 1 → (if n == 0 then Some EmptyEntity else None) ≡ None
not_zero n m is = let no : (n == 0) ≡ false = grind (arith, is) in ap (λ b. if b then Some EmptyEntity else None) no

pub not_empty : (js : tree.Items) (ds : Items) → (js ≡ tree.no_items → ⊥) → of_items js ≡ Some ds → empty_code ds ≡ None
not_empty tree.no_items ds some read = absurd (some refl)
not_empty (tree.item j js) ds some read = not_zero (items_len ds) (count_of js) (tree_len (tree.item j js) ds read)

pub as_long : (js : tree.Items) (ds : Items) (n : ℕ) → count_of js ≡ n → of_items js ≡ Some ds → length_code n ds ≡ None
as_long js ds n long read =
    let same : items_len ds ≡ n = tree_len js ds read ∙ long in
    grind (arith, same)
