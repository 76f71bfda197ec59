-- The parts of a number one behind another, and the number that they are.
use Rattle.std.proofs.Common.{◌≡◌, ℕ, ◌+◌, ◌-◌, ◌<◌, ◌≤◌, ◌⊎◌, inl, inr, ◌==◌, ◌||◌, true, false, cond, List, ◌∷◌, length, take, drop, get_or, Option, Some, None, option_and_then, add-zero, refl, sym, ap, ◌∙◌, subst, arith, lt_of_not-le}
use Rattle.std.specs.Prelude.{IfSome}
use Rattle.std.specs.Str.{IsUtf8, IsCharBoundary}
use Rattle.std.proofs.lemmas.Str.{IsCharBoundary-after_ascii}
use Rattle.std.proofs.lemmas.List.{drop-drop, length-drop, get_or-drop, get_or_default, get_or_past}
use Rattle.std.proofs.lemmas.Bool.{eq-eqb, ne_eqb, cases_lt}
use Rattle.json.specs.Word.{head, ends_word, after_digits, after_minus, after_sign, after_whole, after_fraction, after_exponent, after_number, number_before, word}
use Rattle.json.specs.Token.{Token, number, bad}
use Rattle.json.specs.Lex.{class, other, token, in_word, lex}
use Rattle.gltf_schema.specs.Lexemes.{bytes_between, IsTokenAt}
use Rattle.gltf_schema.specs.NumberParts.{RunsTo, IsPart}
use Rattle.gltf_schema.proofs.Lexing.{runs_past_byte, digit_class, begins_word, past_word}
use Rattle.std.specs.Char.{is_ascii_digit}

pub on_some : {P Q : ℕ → Type 0} (r : Option ℕ) → ((e : ℕ) → P e → Q e) → IfSome r P → IfSome r Q
on_some None f p = tt
on_some (Some e) f p = f e p

-- the byte that is there is none behind the end
pub is_within : (d : List ℕ) (at x : ℕ) → get_or d at 32 ≡ x → (x ≡ 32 → ⊥) → at < length d
is_within d at x is solid = lt_of_not-le (λ h. solid (sym is ∙ get_or_past d at 32 h))

pub byte_is : (d : List ℕ) (at x : ℕ) → get_or d at 32 ≡ x → (x ≡ 32 → ⊥) → get_or d at 0 ≡ x
byte_is d at x is solid = sym (get_or_default d at 32 0 (is_within d at x is solid)) ∙ is

-- a character ends behind a byte of ASCII
pub boundary_behind : (d : List ℕ) (at x : ℕ) → IsUtf8 d → get_or d at 32 ≡ x → (x ≡ 32 → ⊥) → x < 128 → IsCharBoundary d (at + 1)
boundary_behind d at x utf8 is solid small = IsCharBoundary-after_ascii d at utf8 (is_within d at x is solid) (omega (arith, byte_is d at x is solid))

pub head_is : (d : List ℕ) (at : ℕ) → head (drop at d) ≡ get_or d at 32
head_is d at = get_or-drop at d 0 32 ∙ ap (λ j. get_or d j 32) (add-zero at)

pub runs_past : (d : List ℕ) (at x : ℕ) → get_or d at 32 ≡ x → (x ≡ 32 → ⊥) → class x ≡ other → RunsTo d at (at + 1)
runs_past d at x is solid k = runs_past_byte d at (is_within d at x is solid) (ap class (byte_is d at x is solid) ∙ k)

pub fraction_part : (d : List ℕ) (at end : ℕ) → get_or d at 32 ≡ 46 → IsPart after_digits d (at + 1) end → IsPart after_fraction d at end
fraction_part d at end is part =
    let point : (head (drop at d) == 46) ≡ true = eq-eqb _ 46 (head_is d at ∙ is) in (
      ap (λ b. cond b (after_digits (drop 1 (drop at d))) (Some (drop at d))) point ∙ ap after_digits (drop-drop 1 at d) ∙ part.0,
      runs_past d at 46 is (λ z. omega arith) refl ∙ part.1,
      omega arith,
      omega arith,
    )

letter_runs : (d : List ℕ) (at : ℕ) → (get_or d at 32 ≡ 101) ⊎ (get_or d at 32 ≡ 69) → RunsTo d at (at + 1)
letter_runs d at (inl is) = runs_past d at 101 is (λ z. omega arith) refl
letter_runs d at (inr is) = runs_past d at 69 is (λ z. omega arith) refl

letter : (x : ℕ) → (x ≡ 101) ⊎ (x ≡ 69) → ((x == 101) || (x == 69)) ≡ true
letter x (inl e) = ap (λ y. (y == 101) || (y == 69)) e
letter x (inr e) = ap (λ y. (y == 101) || (y == 69)) e

sign_runs : (d : List ℕ) (at : ℕ) → (get_or d at 32 ≡ 45) ⊎ (get_or d at 32 ≡ 43) → RunsTo d at (at + 1)
sign_runs d at (inl is) = runs_past d at 45 is (λ z. omega arith) refl
sign_runs d at (inr is) = runs_past d at 43 is (λ z. omega arith) refl

sign : (x : ℕ) → (x ≡ 45) ⊎ (x ≡ 43) → ((x == 45) || (x == 43)) ≡ true
sign x (inl e) = ap (λ y. (y == 45) || (y == 43)) e
sign x (inr e) = ap (λ y. (y == 45) || (y == 43)) e

no_sign : (x : ℕ) → (x ≡ 45 → ⊥) → (x ≡ 43 → ⊥) → ((x == 45) || (x == 43)) ≡ false
no_sign x a b = (λ i. ne_eqb x 45 a i || ne_eqb x 43 b i)

power : (d : List ℕ) (at digits end : ℕ) → (get_or d at 32 ≡ 101) ⊎ (get_or d at 32 ≡ 69) → after_sign (drop (at + 1) d) ≡ drop digits d → RunsTo d (at + 1) digits → at < digits → IsPart after_digits d digits end → IsPart after_exponent d at end
power d at digits end is signed runs before part =
    let t = drop at d in
    let there : ((head t == 101) || (head t == 69)) ≡ true = ap (λ x. (x == 101) || (x == 69)) (head_is d at) ∙ letter (get_or d at 32) is in (
      ap (λ b. cond b (after_digits (after_sign (drop 1 t))) (Some t)) there ∙ ap (λ u. after_digits (after_sign u)) (drop-drop 1 at d) ∙ ap after_digits signed ∙ part.0,
      letter_runs d at is ∙ runs ∙ part.1,
      omega arith,
      omega arith,
    )

pub signed_power : (d : List ℕ) (at end : ℕ) → (get_or d at 32 ≡ 101) ⊎ (get_or d at 32 ≡ 69) → (get_or d (at + 1) 32 ≡ 45) ⊎ (get_or d (at + 1) 32 ≡ 43) → IsPart after_digits d (at + 2) end → IsPart after_exponent d at end
signed_power d at end is has part =
    let u = drop (at + 1) d in
    let two : at + 1 + 1 ≡ at + 2 = omega arith in
    let there : ((head u == 45) || (head u == 43)) ≡ true = ap (λ x. (x == 45) || (x == 43)) (head_is d (at + 1)) ∙ sign (get_or d (at + 1) 32) has in
    power d at (at + 2) end is (ap (λ b. cond b (drop 1 u) u) there ∙ drop-drop 1 (at + 1) d ∙ ap (λ k. drop k d) two) (sign_runs d (at + 1) has ∙ ap (λ k. lex in_word (drop k d)) two) (omega arith) part

pub plain_power : (d : List ℕ) (at end : ℕ) → (get_or d at 32 ≡ 101) ⊎ (get_or d at 32 ≡ 69) → (get_or d (at + 1) 32 ≡ 45 → ⊥) → (get_or d (at + 1) 32 ≡ 43 → ⊥) → IsPart after_digits d (at + 1) end → IsPart after_exponent d at end
plain_power d at end is a b part =
    let u = drop (at + 1) d in
    let none : ((head u == 45) || (head u == 43)) ≡ false = ap (λ x. (x == 45) || (x == 43)) (head_is d (at + 1)) ∙ no_sign (get_or d (at + 1) 32) a b in
    power d at (at + 1) end is (ap (λ c. cond c (drop 1 u) u) none) refl (omega arith) part

-- ---- the whole number

abbrev Begins : ℕ → Type 0
Begins x = (x ≡ 45) ⊎ (is_ascii_digit x ≡ true)

begins_other : (x : ℕ) → Begins x → class x ≡ other
begins_other x (inl e) = ap class e
begins_other x (inr e) = digit_class x e

no_letter : (x c : ℕ) → 64 ≤ c → Begins x → (x == c) ≡ false
no_letter x c h (inl e) = ne_eqb x c (λ z. omega arith)
no_letter x c h (inr e) = ne_eqb x c (λ z. grind (arith, e))

abbrev is_number : List ℕ → List ℕ → Token
is_number t rest = number (take (length t - length rest) t)

word_is : (t rest : List ℕ) → Begins (head t) → after_number t ≡ Some rest → ends_word rest ≡ true → word t ≡ is_number t rest
unfolding word
word_is t rest begins after ends =
    let x = head t in
    rw (no_letter x 116 (omega arith) begins, no_letter x 102 (omega arith) begins, no_letter x 110 (omega arith) begins) (ap (number_before t) after ∙ ap (λ b. cond b (is_number t rest) bad) ends)

after_is : (t whole fraction end : List ℕ) → after_whole (after_minus t) ≡ Some whole → after_fraction whole ≡ Some fraction → after_exponent fraction ≡ Some end → after_number t ≡ Some end
unfolding after_number
after_is t whole fraction end w f e = ap (λ o. option_and_then after_exponent (option_and_then after_fraction o)) w ∙ ap (option_and_then after_exponent) f ∙ e

pub number_at : (d : List ℕ) (at first point power end : ℕ) → at < length d → drop first d ≡ after_minus (drop at d) → RunsTo d at first → at ≤ first → (get_or d at 0 ≡ 45) ⊎ (first ≡ at) → is_ascii_digit (get_or d first 0) ≡ true
    → IsPart after_whole d first point → IsPart after_fraction d point power → IsPart after_exponent d power end → ends_word (drop end d) ≡ true → IsTokenAt d at (number (bytes_between d at end)) end
number_at d at first point power end within minus runs before signed digit whole fraction exponent ends =
    let t = drop at d in
    let here : head t ≡ get_or d at 0 = head_is d at ∙ get_or_default d at 32 0 within in
    let begins : Begins (get_or d at 0) = by signed in
    let after = after_is t _ _ (drop end d) (ap after_whole (sym minus) ∙ whole.0) fraction.0 exponent.0 in
    let size : length t - length (drop end d) ≡ end - at = omega (arith, length-drop at d, length-drop end d) in
    let is : word t ≡ number (bytes_between d at end) = word_is t (drop end d) (subst Begins (sym here) begins) after ends ∙ ap (λ n. number (take n t)) size in
    let kind = begins_other (get_or d at 0) begins in
    begins_word d at within kind ∙ ap (λ w. token w ∷ lex in_word (drop (at + 1) d)) is
    ∙ ap (λ ls. token (number (bytes_between d at end)) ∷ ls) (sym (runs_past_byte d at within kind) ∙ runs ∙ whole.1 ∙ fraction.1 ∙ exponent.1 ∙ past_word (drop end d) ends)
  where
    by : (get_or d at 0 ≡ 45) ⊎ (first ≡ at) → Begins (get_or d at 0)
    by (inl e) = inl e
    by (inr e) = inr (ap (λ j. is_ascii_digit (get_or d j 0)) (sym e) ∙ digit)

pub begins_ascii : (d : List ℕ) (at first : ℕ) → (get_or d at 0 ≡ 45) ⊎ (first ≡ at) → is_ascii_digit (get_or d first 0) ≡ true → get_or d at 0 < 128
begins_ascii d at first (inl e) digit = omega (arith, e)
begins_ascii d at first (inr e) digit =
    let here : is_ascii_digit (get_or d at 0) ≡ true = ap (λ j. is_ascii_digit (get_or d j 0)) (sym e) ∙ digit in
    grind (arith, here)

pub ends_ascii : (d : List ℕ) (end : ℕ) → get_or d end 32 < 128 → get_or d end 0 < 128
ends_ascii d end small = go (cases_lt end (length d))
  where
    go : (end < length d) ⊎ (length d ≤ end) → get_or d end 0 < 128
    go (inl h) = omega (arith, get_or_default d end 0 32 h)
    go (inr past) = omega (arith, get_or_past d end 0 past)
