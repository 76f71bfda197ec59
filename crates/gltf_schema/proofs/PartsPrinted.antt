-- The members of an object as a map has them, printed one after another.
use Rattle.std.proofs.Common.{◌≡◌, ◌≤◌, List, [], ◌∷◌, ◌++◌, Some, option_map, option_and_then, string_bytes, refl, sym, ap, ap₂, ◌∙◌, subst, arith, append_assoc}
use Rattle.std.specs.List.Sorted.{IsStrictlySortedBy}
use Rattle.std.specs.Map.{keys_of}
use Rattle.std.specs.String.{string_cmp}
use Rattle.json.specs.Token.{Token, begin_object, end_object, key}
use Rattle.json.specs.Json as json
use Rattle.json.specs.Tree as tree
use Rattle.serde_json.specs.Data.{object, Members, put, members_depth}
use Rattle.serde_json.specs.Read.{of_members}
use Rattle.serde_json.specs.View.{view, members_view}
use Rattle.serde_json.specs.Written.{blank_members, members_outline, WritesValue, WritesMembers}
use Rattle.serde_json.proofs.Views.{Entry, put_last}

pub object_behind : (ds : Members) (old mid new : List Token) → mid ≡ old ++ begin_object ∷ [] → WritesMembers ds mid new → WritesValue (object ds) old new
object_behind ds old mid new e w = (
  json.object w.0,
  w.1 ∙ ap (λ ts. ts ++ tree.members_tokens w.0) e ∙ append_assoc old (begin_object ∷ []) (tree.members_tokens w.0),
  ap (option_map object) w.2,
  omega (arith, w.3),
  ap json.object w.4,
)

-- from here on, members that are read behind the first ones print the whole object
abbrev pub Reaches : List Entry → List Entry → List Entry → List Token → List Token → Type 0
Reaches all done left start here =
    (ms : json.Members) → of_members ms (members_view done) ≡ Some (members_view all) → tree.members_depth ms ≤ members_depth (members_view left)
    → blank_members ms ≡ members_outline (members_view left) → WritesMembers (members_view all) start (here ++ tree.members_tokens ms)

pub reaches_next : (all done : List Entry) (e : Entry) (left : List Entry) (start here named there : List Token) → all ≡ done ++ e ∷ left → IsStrictlySortedBy string_cmp (keys_of all)
    → named ≡ here ++ key (string_bytes e.0) ∷ [] → WritesValue (view e.1) named there → Reaches all done (e ∷ left) start here → Reaches all (done ++ e ∷ []) left start there
reaches_next all done e left start here named there parts sorted name w reach =
    let k = string_bytes e.0 in
    let last = put_last done e left (subst (λ es. IsStrictlySortedBy string_cmp (keys_of es)) parts sorted) in
    λ ms reads shallow same.
    let joined : here ++ tree.members_tokens (json.member k w.0 ms) ≡ there ++ tree.members_tokens ms =
    sym (ap (λ ts. ts ++ tree.members_tokens ms) (w.1 ∙ ap (λ ts. ts ++ tree.json_tokens w.0) name) ∙ append_assoc _ (tree.json_tokens w.0) _ ∙ append_assoc here (key k ∷ []) _) in
    subst (WritesMembers (members_view all) start) joined
    (reach (json.member k w.0 ms) (ap (option_and_then (λ d. of_members ms (put k d (members_view done)))) w.2 ∙ ap (of_members ms) last ∙ reads)
    (omega (arith, w.3, shallow))
    (ap₂ (json.member k) w.4 same))

pub reaches_end : (all done : List Entry) (start here end : List Token) → all ≡ done → end ≡ here ++ end_object ∷ [] → Reaches all done [] start here → WritesMembers (members_view all) start end
reaches_end all done start here end is e reach =
    subst (WritesMembers (members_view all) start) (sym e) (reach json.no_members (ap (λ es. Some (members_view es)) (sym is)) (omega arith) refl)
