-- JSON pointers find what their steps lead to.
use Rattle.std.proofs.Common.{◌≡◌, ◌≢◌, ℕ, zero, suc, ◌+◌, ◌^◌, ◌<◌, List, [], ◌∷◌, ◌++◌, length, get_or, map, Bool, true, false, not, ◌||◌, ◌==◌, decimal, Some, inl, inr, refl, sym, ◌∙◌, ap, arith, append-nil, lt-ltb, ne_eqb}
use Rattle.std.proofs.lemmas.Bool.{cases_eq}
use Rattle.std.proofs.lemmas.Bool.Decides.{nat_tests}
use Rattle.std.proofs.lemmas.Float.Parse.{scan_numeral-text_of}
use Rattle.std.proofs.lemmas.Fmt.{decimal_is_IsNumeral, decimal_nonempty, decimal-digits_of}
use Rattle.std.proofs.lemmas.Int.Digits.{first_digits_of}
use Rattle.std.specs.Float.Numeral.{Parts, IsWellFormed, scan_numeral, numeral_digits}
use Rattle.std.specs.Fmt.{digits}
use Rattle.std.specs.Int.Digits.{digits_of}
use Rattle.std.specs.List.{All}
use Rattle.std.proofs.lemmas.List.Elements.{All-head, All-tail}
use Rattle.std.specs.Prelude.{slice_index}
use Rattle.serde_json.specs.Data as json
use Rattle.serde_json.specs.Data.{Data}
use Rattle.serde_json.specs.Find.{get, at, index_of, step, walk, pointer}
use Rattle.serde_json.specs.Read.{is_integer}
use Rattle.serde_json.proofs.Paths.{Lacks, walk_part, walk_last}
use Rattle.gltf_base.proofs.Escapes.{unescape_escaped}
use Rattle.gltf_base.specs.Pointers.{escaped, escaped_byte, pointer_text}
use Rattle.gltf_base.specs.Steps.{Step, field, item, key, value}
use Rattle.gltf_schema.proofs.ReadPlain.{bound}
use Rattle.gltf_validation_rules.specs.Found.{found, HasSmallNumber}

-- ---- texts without a slash

cons_lacks : (c x : ℕ) (xs : List ℕ) → x ≢ c → Lacks c xs → Lacks c (x ∷ xs)
cons_lacks c x xs other h zero less = other
cons_lacks c x xs other h (suc i) less = h i (omega (arith, less))

plain_byte : (c : ℕ) → c ≢ 126 → c ≢ 47 → escaped_byte c ≡ c ∷ []
plain_byte c tilde slash = grind (arith, nat_tests)

escaped_lacks : (name : List ℕ) → Lacks 47 (escaped name)
escaped_lacks [] = λ i less. absurd (omega (arith, less))
escaped_lacks (c ∷ cs) = elim (cases_eq c 126) [
  | inl tilde ↦ rw tilde (cons_lacks 47 126 (48 ∷ escaped cs) (λ e. omega (arith, e)) (cons_lacks 47 48 (escaped cs) (λ e. omega (arith, e)) (escaped_lacks cs)))
  | inr other ↦ elim (cases_eq c 47) [
    | inl slash ↦ rw slash (cons_lacks 47 126 (49 ∷ escaped cs) (λ e. omega (arith, e)) (cons_lacks 47 49 (escaped cs) (λ e. omega (arith, e)) (escaped_lacks cs)))
    | inr plain ↦ rw (plain_byte c other plain) (cons_lacks 47 c (escaped cs) plain (escaped_lacks cs))
  ]
]

digits_lack : (ds : List ℕ) → Lacks 47 (map (λ d. 48 + d) ds)
digits_lack [] = λ i less. absurd (omega (arith, less))
digits_lack (d ∷ ds) = cons_lacks 47 (48 + d) (map (λ x. 48 + x) ds) (λ e. omega (arith, e)) (digits_lack ds)

decimal_zero : decimal 0 ≡ 48 ∷ []
unfolding digits
decimal_zero = refl

decimal_lacks : (n : ℕ) → n < 2 ^ 64 → Lacks 47 (decimal n)
decimal_lacks zero h = rw decimal_zero (cons_lacks 47 48 [] (λ e. omega (arith, e)) (λ i less. absurd (omega (arith, less))))
decimal_lacks (suc n) h = rw (decimal-digits_of (suc n) (omega arith) h) (digits_lack (digits_of 10 (suc n)))

-- ---- the number of an item is read back

or_true : (a b : Bool) → b ≡ true → (a || b) ≡ true
or_true true b h = refl
or_true false b h = h

front_digit : (ds : List ℕ) → 0 < get_or ds 0 0 → not (slice_index (map (λ d. 48 + d) ds) 0 == 48) ≡ true
front_digit [] h = absurd (omega (arith, h))
front_digit (d ∷ ds) h = rw (ne_eqb (48 + d) 48 (λ e. omega (arith, e, h))) refl

front : (n : ℕ) → n < 2 ^ 64 → (length (decimal n) == 1 || not (slice_index (decimal n) 0 == 48)) ≡ true
front zero h = rw decimal_zero refl
front (suc n) h =
    let some : 0 < suc n = omega arith in
    or_true (length (decimal (suc n)) == 1) (not (slice_index (decimal (suc n)) 0 == 48))
    (rw (decimal-digits_of (suc n) some h) (front_digit (digits_of 10 (suc n)) (first_digits_of 10 (suc n) (omega arith) some)))

abbrev parts_of : List ℕ → Parts
parts_of ds = record { whole = ds; point = false; fraction = []; exponent_negative = false; exponent = []; len = length (ds ++ []) }

same_length : (ds : List ℕ) → (length (ds ++ []) == length ds) ≡ true
same_length ds = rw append-nil (grind (arith, nat_tests))

number_read : (n : ℕ) → n < 2 ^ 64 → index_of (decimal n) ≡ Some n
unfolding index_of
number_read n h =
    let e = decimal_is_IsNumeral n h in
    let some = decimal_nonempty n h in
    let formed : IsWellFormed (parts_of (decimal n)) =
    record { whole_digits = e.0.1; fraction_digits = tt; exponent_digits = tt; no_point = λ _. refl; no_exponent = λ _. refl; len_is = refl } in
    let scanned : scan_numeral (decimal n) ≡ parts_of (decimal n) = ap scan_numeral (sym (append-nil (decimal n))) ∙ scan_numeral-text_of (parts_of (decimal n)) formed in
    let whole : is_integer (parts_of (decimal n)) ≡ true = rw (lt-ltb _ _ some) refl in
    let digit_value : numeral_digits (parts_of (decimal n)) ≡ n = rw append-nil e.1 in
    rw (scanned, whole, same_length (decimal n), digit_value, lt-ltb n (2 ^ 64) h, front n h) refl

-- ---- one step, and then the next

-- a token finds what its step leads to
name_token : (name : List ℕ) (d e : Data) → get name d ≡ Some e → step (escaped name) d ≡ Some e
name_token name (json.object ms) e h = rw (unescape_escaped name) h
name_token name d e h = absurd cc

item_token : (n : ℕ) → n < 2 ^ 64 → (d e : Data) → at n d ≡ Some e → step (decimal n) d ≡ Some e
item_token n small (json.array ds) e h = rw (number_read n small) h
item_token n small d e h = absurd cc

-- a text is empty or begins with a slash
data Goes (text : List ℕ) : Type 0 where
  ends : text ≡ [] → Goes text
  slash : (rest : List ℕ) → text ≡ 47 ∷ rest → Goes text

goes : (steps : List Step) → Goes (pointer_text steps)
goes [] = ends refl
goes (field name ∷ steps) = slash (escaped name ++ pointer_text steps) refl
goes (item n ∷ steps) = slash (decimal n ++ pointer_text steps) refl
goes (key text ∷ steps) = slash (escaped text ++ pointer_text steps) refl
goes (value text ∷ steps) = goes steps

on : (token rest : List ℕ) (d e : Data) → Lacks 47 token → step token d ≡ Some e → Goes rest → walk [] (token ++ rest) d ≡ pointer rest e
on token rest d e lacks is (ends none) = rw (none, append-nil token, walk_last token d lacks, is) refl
on token rest d e lacks is (slash more begins) = rw (begins, walk_part token more d lacks, is) refl

pub pointer_finds : (steps : List Step) (d e : Data) → All HasSmallNumber steps → found steps d ≡ Some e → pointer (pointer_text steps) d ≡ Some e
pointer_finds [] d e small h = h
pointer_finds (field name ∷ steps) d e small h =
    let next = bound (get name d) (found steps) e h in
    on (escaped name) (pointer_text steps) d next.0 (escaped_lacks name) (name_token name d next.0 next.1) (goes steps)
    ∙ pointer_finds steps next.0 e (All-tail HasSmallNumber (field name) steps small) next.2
pointer_finds (item n ∷ steps) d e small h =
    let next = bound (at n d) (found steps) e h in
    let fits = All-head HasSmallNumber (item n) steps small in
    on (decimal n) (pointer_text steps) d next.0 (decimal_lacks n fits) (item_token n fits d next.0 next.1) (goes steps)
    ∙ pointer_finds steps next.0 e (All-tail HasSmallNumber (item n) steps small) next.2
pointer_finds (key text ∷ steps) d e small h =
    let next = bound (get text d) (found steps) e h in
    on (escaped text) (pointer_text steps) d next.0 (escaped_lacks text) (name_token text d next.0 next.1) (goes steps)
    ∙ pointer_finds steps next.0 e (All-tail HasSmallNumber (key text) steps small) next.2
pointer_finds (value text ∷ steps) d e small h = pointer_finds steps d e (All-tail HasSmallNumber (value text) steps small) h
