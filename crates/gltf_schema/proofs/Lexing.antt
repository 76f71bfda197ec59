-- The lexemes of a text from a byte on: past a blank, past an operator, past a string and past a word.
use Rattle.std.proofs.Common.{◌≡◌, ℕ, suc, ◌+◌, ◌<◌, ◌≤◌, ◌==◌, ◌||◌, Bool, true, false, cond, List, [], ◌∷◌, length, drop, get_or, Some, None, add-zero, refl, sym, ap, ◌∙◌, arith}
use Rattle.std.specs.List.{prefix_len}
use Rattle.std.proofs.lemmas.List.Sums.{prefix_len-le-length}
use Rattle.std.proofs.lemmas.List.{drop_more, drop-drop, length-drop, get_or-drop}
use Rattle.std.proofs.lemmas.Bool.{false≢true, true≢false, ne_eqb, eqb-true}
use Rattle.json.specs.Lex.{Lexeme, token, Class, quote, backslash, operator, space, other, class, operator_lexeme, Mode, between, in_word, lex_byte, lex}
use Rattle.json.specs.Align.{is_blank}
use Rattle.gltf_schema.specs.Lexemes.{lexemes_at}
use Rattle.gltf_schema.specs.NumberParts.{RunsTo, IsPart}
use Rattle.json.specs.Word.{is_operator, is_space, ends_word, after_digits, word}
use Rattle.std.specs.Char.{is_ascii_digit}

-- ---- a blank

blank : (c : Class) (x : ℕ) (xs : List ℕ) (k : Mode → List Lexeme) → is_blank c ≡ true → lex_byte between c x xs k ≡ k between
blank quote x xs k e = absurd (false≢true e)
blank backslash x xs k e = absurd (false≢true e)
blank operator x xs k e = absurd (false≢true e)
blank space x xs k e = refl
blank other x xs k e = absurd (false≢true e)

pub past_blank : (d : List ℕ) (i : ℕ) → i < length d → is_blank (class (get_or d i 0)) ≡ true → lexemes_at d (i + 1) ≡ lexemes_at d i
unfolding lex
past_blank d i h e = sym (ap (lex between) (drop_more d i 0 h) ∙ blank (class (get_or d i 0)) (get_or d i 0) (drop (i + 1) d) (λ m. lex m (drop (i + 1) d)) e)

-- ---- an operator

mark : (c : Class) (x : ℕ) (xs : List ℕ) (k : Mode → List Lexeme) → c ≡ operator → lex_byte between c x xs k ≡ operator_lexeme x ∷ k between
mark c x xs k e = ap (λ y. lex_byte between y x xs k) e

pub past_operator : (d : List ℕ) (i x : ℕ) → i < length d → get_or d i 0 ≡ x → class x ≡ operator → lexemes_at d i ≡ operator_lexeme x ∷ lexemes_at d (i + 1)
unfolding lex
past_operator d i x h is e = ap (lex between) (drop_more d i 0 h ∙ ap (λ y. y ∷ drop (i + 1) d) is) ∙ mark (class x) x (drop (i + 1) d) (λ m. lex m (drop (i + 1) d)) e

-- ---- a word

pub digit_class : (x : ℕ) → is_ascii_digit x ≡ true → class x ≡ other
digit_class x h = grind (arith, h)

goes_on : (c : Class) (x : ℕ) (xs : List ℕ) (k : Mode → List Lexeme) → c ≡ other → lex_byte in_word c x xs k ≡ k in_word
goes_on c x xs k e = ap (λ y. lex_byte in_word y x xs k) e

run : (b : Bool) (x n : ℕ) (xs : List ℕ) → (b ≡ true → class x ≡ other) → lex in_word xs ≡ lex in_word (drop n xs) → lex in_word (x ∷ xs) ≡ lex in_word (drop (cond b (1 + n) 0) (x ∷ xs))
unfolding lex
run false x n xs k ih = refl
run true x n xs k ih = let next : suc n ≡ 1 + n = omega arith in goes_on (class x) x xs (λ m. lex m xs) (k refl) ∙ ih ∙ ap (λ j. lex in_word (drop j (x ∷ xs))) next

runs_past_digits : (t : List ℕ) → lex in_word t ≡ lex in_word (drop (prefix_len is_ascii_digit t) t)
runs_past_digits [] = refl
runs_past_digits (x ∷ xs) = run (is_ascii_digit x) x (prefix_len is_ascii_digit xs) xs (digit_class x) (runs_past_digits xs)

first_digit : (t : List ℕ) → 0 < prefix_len is_ascii_digit t → is_ascii_digit (get_or t 0 0) ≡ true
first_digit [] h = absurd (omega arith)
first_digit (x ∷ xs) h = passes (is_ascii_digit x) _ h
  where
    passes : (b : Bool) (n : ℕ) → 0 < cond b (1 + n) 0 → b ≡ true
    passes true n h = refl
    passes false n h = absurd (omega arith)

pub digits_part : (d : List ℕ) (at end : ℕ) → at ≤ length d → end ≡ at + prefix_len is_ascii_digit (drop at d) → at < end → IsPart after_digits d at end
digits_part d at end within is some =
    let n = prefix_len is_ascii_digit (drop at d) in
    let rest : drop n (drop at d) ≡ drop end d = drop-drop n at d ∙ ap (λ k. drop k d) (sym is) in
    let there : (n == 0) ≡ false = ne_eqb n 0 (λ z. omega arith) in (
      ap (λ b. cond b None (Some (drop n (drop at d)))) there ∙ ap Some rest,
      runs_past_digits (drop at d) ∙ ap (lex in_word) rest,
      omega arith,
      omega (arith, prefix_len-le-length is_ascii_digit (drop at d), length-drop at d),
    )

pub digits_begin : (d : List ℕ) (at end : ℕ) → end ≡ at + prefix_len is_ascii_digit (drop at d) → at < end → is_ascii_digit (get_or d at 0) ≡ true
digits_begin d at end is some = ap is_ascii_digit (ap (λ j. get_or d j 0) (sym (add-zero at)) ∙ sym (get_or-drop at d 0 0)) ∙ first_digit (drop at d) (omega arith)

pub runs_past_byte : (d : List ℕ) (i : ℕ) → i < length d → class (get_or d i 0) ≡ other → RunsTo d i (i + 1)
unfolding lex
runs_past_byte d i h e = ap (lex in_word) (drop_more d i 0 h) ∙ goes_on (class (get_or d i 0)) (get_or d i 0) (drop (i + 1) d) (λ m. lex m (drop (i + 1) d)) e

pub begins_word : (d : List ℕ) (i : ℕ) → i < length d → class (get_or d i 0) ≡ other → lexemes_at d i ≡ token (word (drop i d)) ∷ lex in_word (drop (i + 1) d)
unfolding lex
begins_word d i h e =
    let x = get_or d i 0 in
    let xs = drop (i + 1) d in
    let first = drop_more d i 0 h in
    ap (lex between) first ∙ ap (λ c. lex_byte between c x xs (λ m. lex m xs)) e ∙ ap (λ t. token (word t) ∷ lex in_word xs) (sym first)

ended : (q b o s : Bool) (x : ℕ) (xs : List ℕ) (k : Mode → List Lexeme) → (q ≡ true → (o || s) ≡ false) → (b ≡ true → (o || s) ≡ false) → (o || s) ≡ true
    → lex_byte in_word (cond q quote (cond b backslash (cond o operator (cond s space other)))) x xs k ≡ lex_byte between (cond q quote (cond b backslash (cond o operator (cond s space other)))) x xs k
ended true b o s x xs k f g h = absurd (true≢false (sym h ∙ f refl))
ended false true o s x xs k f g h = absurd (true≢false (sym h ∙ g refl))
ended false false true s x xs k f g h = refl
ended false false false true x xs k f g h = refl
ended false false false false x xs k f g h = absurd (false≢true h)

pub past_word : (t : List ℕ) → ends_word t ≡ true → lex in_word t ≡ lex between t
unfolding lex
past_word [] h = refl
past_word (x ∷ xs) h =
    ended (x == 34) (x == 92) (is_operator x) (is_space x) x xs (λ m. lex m xs)
    (λ e. ap (λ y. is_operator y || is_space y) (eqb-true x 34 e)) (λ e. ap (λ y. is_operator y || is_space y) (eqb-true x 92 e)) h
