-- Findings and their positions, one beside the other.
use Rattle.std.proofs.Common.{◌≡◌, ℕ, ◌+◌, ◌<◌, List, [], ◌∷◌, ◌++◌, map, length, take, get_or, None, String, string_bytes, refl, sym, subst, arith}
use Rattle.std.specs.declared.alloc.Global.{Global}
use Rattle.std.specs.List.{AllZip}
use Rattle.std.proofs.lemmas.List.{take_more}
use Rattle.gltf_findings_lines.proofs.Leading.{zip_push}
use Rattle.gltf_findings_lines.specs.Found.{IsPositionOf}
use Rattle.gltf_findings_lines.specs.declared.position.Position.{Position}
use Rattle.gltf_findings_lines.specs.Located.{Where, byte, place, pointer_of, where_of}
use Rattle.gltf_findings_lines.specs.Placed.{HasNone, HasNoPositions, HasPosition, IsPositionAt, placed_all, placed_by, pointer_in}
use Rattle.gltf_findings_lines.specs.declared.choices.Shown.{Shown}
use Rattle.gltf_findings_lines.specs.declared.placed.Placed.{Placed}

none_at : (text : List ℕ) (w : Where) → HasNoPositions text → IsPositionAt text w None
none_at text (byte n) lacks = refl
none_at text (place p) lacks = lacks

-- where no place has a position, findings without one have theirs
pub none_placed : (text : List ℕ) (xs : List Shown) (ps : List Placed) → HasNoPositions text → AllZip HasNone xs ps → AllZip (HasPosition text) xs ps
none_placed text [] [] lacks h = tt
none_placed text [] (p ∷ ps) lacks h = absurd h
none_placed text (x ∷ xs) [] lacks h = absurd h
none_placed text (x ∷ xs) (p ∷ ps) lacks h =
    ((h.0.0, subst (IsPositionAt text (where_of x.finding.location)) (sym h.0.1) (none_at text (where_of x.finding.location) lacks)), none_placed text xs ps lacks h.1)

one_at : (text : List ℕ) (w : Where) (q : Position) → IsPositionOf text (pointer_of w) q → IsPositionAt text w (placed_by w q)
one_at text (byte n) q h = refl
one_at text (place p) q h = h

first_same : (x y : List ℕ) (xs ys : List (List ℕ)) → x ∷ xs ≡ y ∷ ys → x ≡ y
first_same x y xs ys e = cc

rest_same : (x y : List ℕ) (xs ys : List (List ℕ)) → x ∷ xs ≡ y ∷ ys → xs ≡ ys
rest_same x y xs ys e = cc

differ : (x : List ℕ) (xs : List (List ℕ)) → [] ≡ x ∷ xs → ⊥
differ x xs e = cc

pub all_placed : (text : List ℕ) (xs : List Shown) (pointers : List (String Global)) (qs : List Position) → map string_bytes pointers ≡ map pointer_in xs → AllZip (λ s q. IsPositionOf text (string_bytes s) q) pointers qs
    → AllZip (HasPosition text) xs (placed_all xs qs)
all_placed text [] pointers qs same h = tt
all_placed text (x ∷ xs) [] qs same h = absurd (differ _ _ same)
all_placed text (x ∷ xs) (s ∷ ss) [] same h = absurd h
all_placed text (x ∷ xs) (s ∷ ss) (q ∷ qs) same h =
    let here = subst (λ p. IsPositionOf text p q) (first_same _ _ _ _ same) h.0 in
    ((refl, one_at text (where_of x.finding.location) q here), all_placed text xs ss qs (rest_same _ _ _ _ same) h.1)

pub zip_length : {A B : Type 0} (R : A → B → Type 0) (xs : List A) (ys : List B) → AllZip R xs ys → length xs ≡ length ys
zip_length R [] [] h = refl
zip_length R [] (y ∷ ys) h = absurd h
zip_length R (x ∷ xs) [] h = absurd h
zip_length R (x ∷ xs) (y ∷ ys) h = omega (arith, zip_length R xs ys h.1)

pub none_more : (xs : List Shown) (ps : List Placed) (i : ℕ) (d : Shown) → i < length xs → AllZip HasNone (take i xs) ps → AllZip HasNone (take (i + 1) xs) (ps ++ record { shown = get_or xs i d; position = None } ∷ [])
none_more xs ps i d within before =
    let p : Placed = record { shown = get_or xs i d; position = None } in
    subst (λ l. AllZip HasNone l (ps ++ p ∷ [])) (sym (take_more xs i d within)) (zip_push HasNone (take i xs) ps (get_or xs i d) p before (refl, refl))
