-- Versions by the digits that write them.
use Rattle.std.proofs.Common.{◌≡◌, ℕ, suc, ◌+◌, ◌-◌, ◌*◌, ◌^◌, ◌≤◌, ◌<◌, List, [], ◌∷◌, ◌++◌, Bool, true, false, ◌==◌, Option, Some, None, length, take, drop, min, refl, sym, ◌∙◌, ap, ap₂, subst, arith}
use Rattle.std.specs.Prelude.{if◌then◌else◌, nat_le}
use Rattle.std.proofs.lemmas.Bool.{both_ways, and_parts, and_from, eqb-true, eqb-false, ne_eqb, leb-true}
use Rattle.gltf_findings.specs.Versions.{is_digit, value_from, digits_of, point_in, pair_of, version_of}
use Rattle.gltf_findings.specs.Digits.{number_from, all_digits, are_digits, machine_number, IsVersionText}

-- ---- the number of digits

step : (n d : ℕ) → min (min (min n (2 ^ 64 - 1) * 10) (2 ^ 64 - 1) + d) (2 ^ 64 - 1) ≡ min (n * 10 + d) (2 ^ 64 - 1)
step n d = omega arith

value_of : (n : ℕ) (ds : List ℕ) → all_digits ds ≡ true → value_from (min n (2 ^ 64 - 1)) ds ≡ Some (min (number_from n ds) (2 ^ 64 - 1))
value_of n [] h = refl
value_of n (c ∷ cs) h =
    let parts = and_parts (is_digit c) (all_digits cs) h in
    let next = value_from (min (min (min n (2 ^ 64 - 1) * 10) (2 ^ 64 - 1) + (c - 48)) (2 ^ 64 - 1)) cs in
    let taken : (if is_digit c then next else None) ≡ next = ap (λ b. if b then next else None) parts.0 in
    taken ∙ ap (λ m. value_from m cs) (step n (c - 48)) ∙ value_of (n * 10 + (c - 48)) cs parts.1

digits_read : (ds : List ℕ) → are_digits ds ≡ true → digits_of ds ≡ Some (machine_number ds)
digits_read [] h = absurd (both_ways false refl h)
digits_read (c ∷ cs) h = value_of 0 (c ∷ cs) h

taken_by : (b : Bool) (o : Option ℕ) (v : ℕ) → (if b then o else None) ≡ Some v → (b ≡ true) × (o ≡ Some v)
taken_by true o v h = (refl, h)
taken_by false o v h = absurd cc

all_read : (n : ℕ) (ds : List ℕ) (v : ℕ) → value_from n ds ≡ Some v → all_digits ds ≡ true
all_read n [] v h = refl
all_read n (c ∷ cs) v h =
    let parts = taken_by (is_digit c) (value_from (min (min (n * 10) (2 ^ 64 - 1) + (c - 48)) (2 ^ 64 - 1)) cs) v h in
    and_from (is_digit c) (all_digits cs) parts.0 (all_read (min (min (n * 10) (2 ^ 64 - 1) + (c - 48)) (2 ^ 64 - 1)) cs v parts.1)

are_read : (ds : List ℕ) (v : ℕ) → digits_of ds ≡ Some v → are_digits ds ≡ true
are_read [] v h = absurd cc
are_read (c ∷ cs) v h = all_read 0 (c ∷ cs) v h

-- ---- the point

no_point : (c : ℕ) → is_digit c ≡ true → (c == 46) ≡ false
no_point c h =
    let parts = and_parts (nat_le 48 c) (nat_le c 57) h in
    let least : 48 ≤ c = leb-true 48 c parts.0 in
    ne_eqb c 46 (λ e. omega (arith, least, e))

point_behind : (xs ys : List ℕ) → all_digits xs ≡ true → point_in (xs ++ 46 ∷ ys) ≡ length xs
point_behind [] ys h = refl
point_behind (c ∷ cs) ys h =
    let parts = and_parts (is_digit c) (all_digits cs) h in
    ap (λ b. if b then 0 else point_in (cs ++ 46 ∷ ys) + 1) (no_point c parts.0) ∙ ap (λ n. n + 1) (point_behind cs ys parts.1) ∙ omega arith

take_front : (xs ys : List ℕ) → take (length xs) (xs ++ 46 ∷ ys) ≡ xs
take_front [] ys = refl
take_front (c ∷ cs) ys = ap (λ x. c ∷ x) (take_front cs ys)

drop_back : (xs ys : List ℕ) → drop (length xs + 1) (xs ++ 46 ∷ ys) ≡ ys
drop_back [] ys = refl
drop_back (c ∷ cs) ys =
    let e : suc (length cs) + 1 ≡ suc (length cs + 1) = omega arith in
    ap (λ n. drop n (c ∷ cs ++ 46 ∷ ys)) e ∙ drop_back cs ys

longer : (xs ys : List ℕ) → length xs < length (xs ++ 46 ∷ ys)
longer [] ys = omega arith
longer (c ∷ cs) ys = omega (arith, longer cs ys)

all_of : (ds : List ℕ) → are_digits ds ≡ true → all_digits ds ≡ true
all_of [] h = absurd (both_ways false refl h)
all_of (c ∷ cs) h = h

read_at : (text : List ℕ) (p : ℕ) (xs ys : List ℕ) → point_in text ≡ p → (p == length text) ≡ false → take p text ≡ xs → drop (p + 1) text ≡ ys → version_of text ≡ pair_of (digits_of xs) (digits_of ys)
read_at text p xs ys at apart front back =
    let of : ℕ → Option (ℕ × ℕ) = λ n. if n == length text then None else pair_of (digits_of (take n text)) (digits_of (drop (n + 1) text)) in
    let here : version_of text ≡ of p = ap of at in
    let there : of p ≡ pair_of (digits_of (take p text)) (digits_of (drop (p + 1) text)) = ap (λ b. if b then None else pair_of (digits_of (take p text)) (digits_of (drop (p + 1) text))) apart in
    here ∙ there ∙ ap₂ (λ x y. pair_of (digits_of x) (digits_of y)) front back

pub version_read : (text major minor : List ℕ) → IsVersionText text major minor → version_of text ≡ Some (machine_number major, machine_number minor)
version_read text major minor (is, first, second) =
    let whole = major ++ 46 ∷ minor in
    let small = longer major minor in
    let apart : (length major == length whole) ≡ false = ne_eqb (length major) (length whole) (λ e. omega (arith, small, e)) in
    ap version_of is
    ∙ read_at whole (length major) major minor (point_behind major minor (all_of major first)) apart (take_front major minor) (drop_back major minor)
    ∙ ap₂ pair_of (digits_read major first) (digits_read minor second)

-- ---- each version has such a text

split_at : (text : List ℕ) → (point_in text == length text) ≡ false → text ≡ take (point_in text) text ++ 46 ∷ drop (point_in text + 1) text
split_at [] h = absurd (both_ways true h refl)
split_at (c ∷ cs) h = by (c == 46) refl (split_at cs)
  where
    by : (b : Bool) → (c == 46) ≡ b → ((point_in cs == length cs) ≡ false → cs ≡ take (point_in cs) cs ++ 46 ∷ drop (point_in cs + 1) cs) → (c ∷ cs) ≡ take (point_in (c ∷ cs)) (c ∷ cs) ++ 46 ∷ drop (point_in (c ∷ cs) + 1) (c ∷ cs)
    by true e rest =
        let same : c ≡ 46 = eqb-true c 46 e in
        let p : point_in (c ∷ cs) ≡ 0 = ap (λ b. if b then 0 else point_in cs + 1) e in
        subst (λ n. (c ∷ cs) ≡ take n (c ∷ cs) ++ 46 ∷ drop (n + 1) (c ∷ cs)) (sym p) (ap (λ x. x ∷ cs) same)
    by false e rest =
        let p : point_in (c ∷ cs) ≡ suc (point_in cs) = ap (λ b. if b then 0 else point_in cs + 1) e ∙ omega arith in
        let apart : suc (point_in cs) ≡ suc (length cs) → ⊥ = subst (λ n. n ≡ suc (length cs) → ⊥) p (eqb-false (point_in (c ∷ cs)) (length (c ∷ cs)) h) in
        let is = rest (ne_eqb (point_in cs) (length cs) (λ same. apart (ap suc same))) in
        let q : suc (point_in cs) + 1 ≡ suc (point_in cs + 1) = omega arith in
        subst (λ n. (c ∷ cs) ≡ take n (c ∷ cs) ++ 46 ∷ drop (n + 1) (c ∷ cs)) (sym p)
        (subst (λ n. (c ∷ cs) ≡ (c ∷ take (point_in cs) cs) ++ 46 ∷ drop n (c ∷ cs)) (sym q) (ap (λ x. c ∷ x) is))

some_pair : (x y : Option ℕ) (a b : ℕ) → pair_of x y ≡ Some (a, b) → (m n : ℕ) × (x ≡ Some m) × (y ≡ Some n)
some_pair (Some m) (Some n) a b h = (m, n, refl, refl)
some_pair (Some m) None a b h = absurd cc
some_pair None y a b h = absurd cc

whole_by : (c : Bool) (o : Option (ℕ × ℕ)) (v : ℕ × ℕ) → (if c then None else o) ≡ Some v → (c ≡ false) × (o ≡ Some v)
whole_by true o v h = absurd cc
whole_by false o v h = (refl, h)

pub version_written : (text : List ℕ) (a b : ℕ) → version_of text ≡ Some (a, b) → (major minor : List ℕ) × IsVersionText text major minor
version_written text a b h =
    let front = take (point_in text) text in
    let back = drop (point_in text + 1) text in
    let parts = whole_by (point_in text == length text) (pair_of (digits_of front) (digits_of back)) (a, b) h in
    let both = some_pair (digits_of front) (digits_of back) a b parts.1 in
    (front, back, (split_at text parts.0, are_read front both.0 both.2, are_read back both.1 both.3))
