-- The items and the members of a value, a turn at a time.
use Rattle.std.proofs.Common.{◌≡◌, ℕ, zero, suc, ◌+◌, Bool, true, false, cond, List, [], ◌∷◌, ◌++◌, length, Option, Some, None, refl, sym, ap, ◌∙◌, subst, append_assoc}
use Rattle.std.specs.Prelude.{slice_get, MatchOption}
use Rattle.json.specs.Token.{Token}
use Rattle.json.specs.Json.{Json, Items, no_items, item}
use Rattle.json.specs.Find.{BeginsWith}
use Rattle.json.specs.Tape.{node_token}
use Rattle.json.specs.Tree.{json_tokens}
use Rattle.json.specs.declared.tape.Node.{Node}
use Rattle.json.specs.declared.tape.Node.TheVariants.{Object, EndObject, Array, EndArray, Key, String, Number, Bool as Truth, Null}
use Rattle.gltf_findings_lines.specs.Places.{Child, child_at, item_at, later_or}
use Rattle.gltf_findings_lines.specs.Children.{AreItems, IsAt, IsChild}
use Rattle.gltf_findings_lines.proofs.Nodes.{shape}

-- ---- items

pub item_turn : (nodes : List Node) (first at end : ℕ) (js rest more : Items) (j : Json) (done : List ℕ) → rest ≡ item j more → IsAt nodes at j → end ≡ at + length (json_tokens j)
    → ((ss : List ℕ) → AreItems nodes at rest ss → AreItems nodes first js (done ++ ss)) → (ss : List ℕ) → AreItems nodes end more ss → AreItems nodes first js ((done ++ at ∷ []) ++ ss)
item_turn nodes first at end js rest more j done is here behind before ss given =
    subst (AreItems nodes first js) (sym (append_assoc done (at ∷ []) ss))
    (before (at ∷ ss) (subst (λ r. AreItems nodes at r (at ∷ ss)) (sym is) (refl, here, subst (λ n. AreItems nodes n more ss) behind given)))

pub item_found : (nodes : List Node) (n : ℕ) (js : Items) (ss : List ℕ) (i : ℕ) → AreItems nodes n js ss → IsChild nodes (slice_get ss i) (item_at n i js)
item_found nodes n no_items [] i are = refl
item_found nodes n no_items (s ∷ ss) i are = absurd are
item_found nodes n (item j js) [] i are = absurd are
item_found nodes n (item j js) (s ∷ ss) zero are = (j, ap (λ k. Some (k, j)) (sym are.0), subst (λ k. IsAt nodes k j) (sym are.0) are.1)
item_found nodes n (item j js) (s ∷ ss) (suc i) are = item_found nodes (n + length (json_tokens j)) js ss i are.2

-- ---- members

-- what is due is what is left, or else the child that was found
abbrev pub IsLeft : List Node → Option Child → Option Child → Option ℕ → Type 0
IsLeft nodes due rest found = MatchOption found (due ≡ rest) (λ k. (v : Json) × IsAt nodes k v × (due ≡ later_or rest (Some (k, v))))

later_none : (x : Option Child) → later_or x None ≡ x
later_none None = refl
later_none (Some c) = refl

earlier : (x : Option Child) (c : Child) (d : Option Child) → later_or (later_or x (Some c)) d ≡ later_or x (Some c)
earlier None c d = refl
earlier (Some e) c d = refl

pub member_turn : (nodes : List Node) (due : Option Child) (b : Bool) (x : Option Child) (n : ℕ) (j : Json) (found : Option ℕ) → IsAt nodes n j
    → IsLeft nodes due (later_or x (cond b (Some (n, j)) None)) found → IsLeft nodes due x (cond b (Some n) found)
member_turn nodes due true x n j None here h = (j, here, h)
member_turn nodes due true x n j (Some k) here h = (j, here, h.2 ∙ earlier x (n, j) (Some (k, h.0)))
member_turn nodes due false x n j None here h = h ∙ later_none x
member_turn nodes due false x n j (Some k) here h = (h.0, h.1, h.2 ∙ ap (λ y. later_or y (Some (k, h.0))) (later_none x))

pub member_found : (nodes : List Node) (due : Option Child) (found : Option ℕ) → IsLeft nodes due None found → IsChild nodes found due
member_found nodes due None h = h
member_found nodes due (Some k) h = (h.0, h.2, h.1)

-- ---- other values

pub no_child : (n : Node) (ts : List Token) (j : Json) (i : ℕ) (part : List ℕ) → ((a : ℕ) → n ≡ Object a → ⊥) → ((a : ℕ) → n ≡ Array a → ⊥) → BeginsWith (node_token n ∷ ts) j → child_at i part j ≡ None
no_child (Object a) ts j i part p q h = absurd (p a refl)
no_child EndObject ts j i part p q h = absurd (shape EndObject ts j h.0 h.1 h.2)
no_child (Array a) ts j i part p q h = absurd (q a refl)
no_child EndArray ts j i part p q h = absurd (shape EndArray ts j h.0 h.1 h.2)
no_child (Key s) ts j i part p q h = absurd (shape (Key s) ts j h.0 h.1 h.2)
no_child (String s) ts j i part p q h = ap (child_at i part) (shape (String s) ts j h.0 h.1 h.2).0
no_child (Number s) ts j i part p q h = ap (child_at i part) (shape (Number s) ts j h.0 h.1 h.2).0
no_child (Truth b) ts j i part p q h = ap (child_at i part) (shape (Truth b) ts j h.0 h.1 h.2).0
no_child Null ts j i part p q h = ap (child_at i part) (shape Null ts j h.0 h.1 h.2).0
