-- Where parts lead, a part at a time, and what is known of children.
use Rattle.std.proofs.Common.{◌≡◌, ℕ, zero, suc, ◌+◌, ◌<◌, Bool, true, false, cond, List, [], ◌∷◌, ◌++◌, map, length, drop, get_or, Option, Some, None, refl, sym, ap, ◌∙◌, subst, inl, inr, arith}
use Rattle.std.specs.List.{AllZip}
use Rattle.std.specs.Option.{IsSome, option_map_or}
use Rattle.std.specs.Cmp.{nat_cmp_is}
use Rattle.std.specs.Ordering.{is_eq, nat_cmp}
use Rattle.std.specs.declared.cmp.Ordering.TheVariants.{Less, Greater}
use Rattle.std.specs.BTreeMap.{BTreeMap, Updates, get, is_at}
use Rattle.std.specs.Borrow.{Bor}
use Rattle.std.proofs.lemmas.Bool.{cases_lt, false≢true}
use Rattle.std.proofs.lemmas.List.{drop_more, drop_all, length-map}
use Rattle.json.specs.Json.{Json}
use Rattle.json.specs.Find.{BeginsWith}
use Rattle.json.specs.Tape.{node_token}
use Rattle.json.specs.declared.tape.Node.{Node}
use Rattle.json.proofs.Found.{Some_inj, not_empty}
use Rattle.gltf_findings_lines.specs.Places.{child_at, place_at}
use Rattle.gltf_findings_lines.specs.Children.{AreChildrenAt, AreKnown, IsAt, tokens_of}
use Rattle.gltf_findings_lines.specs.declared.children.Children.{Children}

pub next_part : (parts : List (Bor (List ℕ))) (i at : ℕ) (v : Json) (p : Bor (List ℕ)) → i < length parts → p ≡ get_or parts i p
    → place_at (map (λ x. x.now) (drop i parts)) at v ≡ option_map_or (λ c. place_at (map (λ x. x.now) (drop (i + 1) parts)) c.0 c.1) (child_at at p.now v) at
next_part parts i at v p within is =
    ap (λ ps. place_at (map (λ x. x.now) ps) at v) (drop_more parts i p within ∙ ap (λ x. x ∷ drop (i + 1) parts) (sym is))

-- a value begins at a node, and not behind all
pub at_node : (nodes : List Node) (at : ℕ) (j : Json) → IsAt nodes at j → at < length nodes
at_node nodes at j is = elim (cases_lt at (length nodes)) [
  | inl within ↦ within
  | inr behind ↦ absurd (not_empty j (subst (λ ts. BeginsWith ts j) (drop_all at (tokens_of nodes) (omega (arith, length-map nodes node_token))) is))
]

same_number : (x y : ℕ) → is_eq (nat_cmp x y) ≡ true → x ≡ y
same_number x y e = elim (cases_lt x y) [
  | inl less ↦ absurd (false≢true (ap is_eq (nat_cmp_is x y Less less) ∙ e))
  | inr high ↦ elim (cases_lt y x) [
    | inl less ↦ absurd (false≢true (ap is_eq (nat_cmp_is x y Greater less) ∙ e))
    | inr low ↦ omega arith
  ]
]

pub known_more : (nodes : List Node) (m n : BTreeMap ℕ Children) (k : ℕ) (c : Children) → AreKnown nodes m → AreChildrenAt nodes k c → Updates nat_cmp m n k (Some c) → AreKnown nodes n
known_more nodes m n k c before new up at x found = go (is_at (nat_cmp k) at) refl (sym (up.0 at) ∙ found)
  where
    go : (b : Bool) → is_at (nat_cmp k) at ≡ b → cond b (Some c) (get nat_cmp m at) ≡ Some x → AreChildrenAt nodes at x
    go true is e =
        let same = same_number k at is in
        subst (λ i. AreChildrenAt nodes i x) same (subst (AreChildrenAt nodes k) (Some_inj c x e) new)
    go false is e = before at x e

pub zip_push : {A B : Type 0} (R : A → B → Type 0) (xs : List A) (ys : List B) (x : A) (y : B) → AllZip R xs ys → R x y → AllZip R (xs ++ x ∷ []) (ys ++ y ∷ [])
zip_push R [] [] x y all here = (here, tt)
zip_push R [] (z ∷ ys) x y all here = absurd all
zip_push R (w ∷ xs) [] x y all here = absurd all
zip_push R (w ∷ xs) (z ∷ ys) x y all here = (all.0, zip_push R xs ys x y all.1 here)

pub zip_join : {A B C : Type 0} (R : A → B → Type 0) (S : B → C → Type 0) (T : A → C → Type 0) → ((a : A) (b : B) (c : C) → R a b → S b c → T a c) → (xs : List A) (ys : List B) (zs : List C) → AllZip R xs ys → AllZip S ys zs → AllZip T xs zs
zip_join R S T step [] [] [] r s = tt
zip_join R S T step [] [] (z ∷ zs) r s = absurd s
zip_join R S T step [] (y ∷ ys) zs r s = absurd r
zip_join R S T step (x ∷ xs) [] zs r s = absurd r
zip_join R S T step (x ∷ xs) (y ∷ ys) [] r s = absurd s
zip_join R S T step (x ∷ xs) (y ∷ ys) (z ∷ zs) r s = (step x y z r.0 s.0, zip_join R S T step xs ys zs r.1 s.1)

pub zip_second : {A B : Type 0} (R : A → B → Type 0) (P : B → Type 0) → ((a : A) (b : B) → R a b → P b) → (xs : List A) (ys : List B) → AllZip R xs ys → (k : ℕ) (d : B) → k < length ys → P (get_or ys k d)
zip_second R P step [] [] r k d h = absurd (omega arith)
zip_second R P step [] (y ∷ ys) r k d h = absurd r
zip_second R P step (x ∷ xs) [] r k d h = absurd (omega arith)
zip_second R P step (x ∷ xs) (y ∷ ys) r zero d h = step x y r.0
zip_second R P step (x ∷ xs) (y ∷ ys) r (suc k) d h = zip_second R P step xs ys r.1 k d (omega arith)

pub some_value : {A : Type 0} (o : Option A) → IsSome o → (a : A) × (o ≡ Some a)
some_value None h = absurd (false≢true h)
some_value (Some a) h = (a, refl)
