-- Names as the parts of a pointer.
use Rattle.std.proofs.Common.{◌≡◌, ◌≢◌, ℕ, suc, ◌<◌, ◌≤◌, List, [], ◌∷◌, ◌++◌, length, get_or, encode_utf8, inl, inr, refl, sym, ap, ap₂, ◌∙◌, append-nil, arith}
use Rattle.std.proofs.lemmas.Bool.{cases_lt, cases_eq}
use Rattle.std.proofs.lemmas.Bool.Decides.{nat_tests}
use Rattle.std.proofs.lemmas.Str.{encode_ascii, inside_one}
use Rattle.serde_json.specs.Find.{unescape}
use Rattle.gltf_base.specs.Pointers.{escaped, escaped_byte}

plain_byte : (c : ℕ) → c ≢ 126 → c ≢ 47 → escaped_byte c ≡ c ∷ []
plain_byte c tilde slash = grind (arith, nat_tests)

-- bytes past ASCII are not escaped
high_bytes : (xs : List ℕ) → ((k : ℕ) → k < length xs → 128 ≤ get_or xs k 0) → escaped xs ≡ xs
high_bytes [] h = refl
high_bytes (x ∷ xs) h =
    let high : 128 ≤ x = h 0 (omega arith) in
    ap₂ (λ (a b : List ℕ). a ++ b) (plain_byte x (λ e. omega (arith, e)) (λ e. omega (arith, e))) (high_bytes xs (λ k below. h (suc k) (omega arith)))

-- a character that is neither '~' nor '/' stays as it is
pub plain_character : (c : ℕ) → c ≢ 126 → c ≢ 47 → escaped (encode_utf8 c) ≡ encode_utf8 c
plain_character c tilde slash = elim (cases_lt c 128) [
  | inl small ↦ rw (encode_ascii c small) (append-nil _ ∙ plain_byte c tilde slash)
  | inr big ↦
      high_bytes (encode_utf8 c) (λ k below. elim (cases_lt (get_or (encode_utf8 c) k 0) 128) [
        | inl low ↦ absurd (omega (arith, inside_one c [] (encode_utf8 c) k (sym (append-nil _)) below low))
        | inr h ↦ h
      ])
]

-- what is in front of a byte other than '~' is read as it is
unescape_plain : (x : ℕ) (rest : List ℕ) → x ≢ 126 → unescape (x ∷ rest) ≡ x ∷ unescape rest
unfolding unescape
unescape_plain x [] tilde = refl
unescape_plain x (y ∷ rest) tilde = grind (arith, nat_tests)

unescape_tilde : (rest : List ℕ) → unescape (126 ∷ 48 ∷ rest) ≡ 126 ∷ unescape rest
unfolding unescape
unescape_tilde rest = refl

unescape_slash : (rest : List ℕ) → unescape (126 ∷ 49 ∷ rest) ≡ 47 ∷ unescape rest
unfolding unescape
unescape_slash rest = refl

unescape_nil : unescape [] ≡ []
unfolding unescape
unescape_nil = refl

pub unescape_escaped : (name : List ℕ) → unescape (escaped name) ≡ name
unescape_escaped [] = unescape_nil
unescape_escaped (c ∷ cs) = elim (cases_eq c 126) [
  | inl tilde ↦ rw tilde (unescape_tilde (escaped cs) ∙ ap (λ l. 126 ∷ l) (unescape_escaped cs))
  | inr other ↦ elim (cases_eq c 47) [
    | inl slash ↦ rw slash (unescape_slash (escaped cs) ∙ ap (λ l. 47 ∷ l) (unescape_escaped cs))
    | inr plain ↦ rw (plain_byte c other plain) (unescape_plain c (escaped cs) other ∙ ap (λ l. c ∷ l) (unescape_escaped cs))
  ]
]
