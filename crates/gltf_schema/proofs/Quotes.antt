-- A text in quotes: what it holds, and the lexeme behind it.
use Rattle.std.proofs.Common.{◌≡◌, ℕ, suc, ◌+◌, ◌-◌, ◌<◌, ◌==◌, ◌||◌, Bool, true, false, cond, List, [], ◌∷◌, ◌++◌, length, take, drop, get_or, Option, Some, None, refl, sym, ap, ◌∙◌, arith}
use Rattle.std.specs.List.{prefix_len}
use Rattle.std.proofs.lemmas.List.{drop_more, drop-drop, append-nil, append_assoc}
use Rattle.std.proofs.lemmas.Bool.{or_parts, not-true, true≢false}
use Rattle.json.specs.Token.{string}
use Rattle.json.specs.Text.{plain, after_backslash, prepend, content}
use Rattle.json.specs.Word.{is_operator, is_space}
use Rattle.json.specs.Lex.{Lexeme, token, quote, backslash, operator, space, other, string_token, Mode, between, in_string, lex_byte, lex}
use Rattle.json.specs.Run.{is_plain}
use Rattle.gltf_schema.specs.Lexemes.{lexemes_at, bytes_between, IsTokenAt}

-- ---- what plain bytes stand for

joined : (a b : List ℕ) (r : Option (List ℕ)) → prepend a (prepend b r) ≡ prepend (a ++ b) r
joined a b None = refl
joined a b (Some s) = ap Some (sym (append_assoc a b s))

alone : (r : Option (List ℕ)) → prepend [] r ≡ r
alone None = refl
alone (Some s) = refl

held : (p : Bool) (x n : ℕ) (xs : List ℕ) → p ≡ is_plain x → content plain xs ≡ prepend (take n xs) (content plain (drop n xs))
    → content plain (x ∷ xs) ≡ prepend (take (cond p (1 + n) 0) (x ∷ xs)) (content plain (drop (cond p (1 + n) 0) (x ∷ xs)))
unfolding content
held false x n xs e ih = sym (alone _)
held true x n xs e ih =
    let next : suc n ≡ 1 + n = omega arith in
    let none = or_parts ((x == 34) || (x == 92)) _ (not-true _ (sym e)) in
    let tests = or_parts (x == 34) _ none.0 in
    (λ i. cond (tests.0 i) (Some []) (cond (tests.1 i) (content after_backslash xs) (cond (none.1 i) None (prepend (x ∷ []) (ih i)))))
    ∙ joined (x ∷ []) (take n xs) _ ∙ ap (λ k. prepend (take k (x ∷ xs)) (content plain (drop k (x ∷ xs)))) next

plain_content : (t : List ℕ) → content plain t ≡ prepend (take (prefix_len is_plain t) t) (content plain (drop (prefix_len is_plain t) t))
plain_content [] = sym (alone _)
plain_content (x ∷ xs) = held (is_plain x) x (prefix_len is_plain xs) xs refl (plain_content xs)

-- ---- no lexeme begins in them

within : (q b o s : Bool) (x : ℕ) (xs : List ℕ) (k : Mode → List Lexeme) → q ≡ false → b ≡ false → lex_byte in_string (cond q quote (cond b backslash (cond o operator (cond s space other)))) x xs k ≡ k in_string
within true b o s x xs k e f = absurd (true≢false e)
within false true o s x xs k e f = absurd (true≢false f)
within false false true s x xs k e f = refl
within false false false true x xs k e f = refl
within false false false false x xs k e f = refl

passed : (p : Bool) (x n : ℕ) (xs : List ℕ) → p ≡ is_plain x → lex in_string xs ≡ lex in_string (drop n xs) → lex in_string (x ∷ xs) ≡ lex in_string (drop (cond p (1 + n) 0) (x ∷ xs))
unfolding lex
passed false x n xs e ih = refl
passed true x n xs e ih =
    let next : suc n ≡ 1 + n = omega arith in
    let none = or_parts ((x == 34) || (x == 92)) _ (not-true _ (sym e)) in
    let tests = or_parts (x == 34) _ none.0 in
    within (x == 34) (x == 92) (is_operator x) (is_space x) x xs (λ m. lex m xs) tests.0 tests.1 ∙ ih ∙ ap (λ j. lex in_string (drop j (x ∷ xs))) next

plain_lexemes : (t : List ℕ) → lex in_string t ≡ lex in_string (drop (prefix_len is_plain t) t)
plain_lexemes [] = refl
plain_lexemes (x ∷ xs) = passed (is_plain x) x (prefix_len is_plain xs) xs refl (plain_lexemes xs)

-- ---- from quote to quote

pub opened : (d : List ℕ) (at : ℕ) (o : Option (List ℕ)) → at < length d → get_or d at 0 ≡ 34 → content plain (drop (at + 1) d) ≡ o → lexemes_at d at ≡ token (string_token o) ∷ lex in_string (drop (at + 1) d)
unfolding lex
opened d at o h is holds = ap (lex between) (drop_more d at 0 h ∙ ap (λ x. x ∷ drop (at + 1) d) is) ∙ ap (λ r. token (string_token r) ∷ lex in_string (drop (at + 1) d)) holds

pub closed : (d : List ℕ) (end : ℕ) → end < length d → get_or d end 0 ≡ 34 → (content plain (drop end d) ≡ Some []) × (lex in_string (drop end d) ≡ lexemes_at d (end + 1))
unfolding content lex
closed d end h is =
    let first = drop_more d end 0 h ∙ ap (λ x. x ∷ drop (end + 1) d) is in (
      ap (content plain) first,
      ap (lex in_string) first,
    )

pub text_at : (d : List ℕ) (at end : ℕ) → at < length d → get_or d at 0 ≡ 34 → end ≡ at + 1 + prefix_len is_plain (drop (at + 1) d) → end < length d → get_or d end 0 ≡ 34
    → IsTokenAt d at (string (bytes_between d (at + 1) end)) (end + 1)
text_at d at end h is stop inside closing =
    let t = drop (at + 1) d in
    let n = prefix_len is_plain t in
    let rest : drop n t ≡ drop end d = drop-drop n (at + 1) d ∙ ap (λ k. drop k d) (sym stop) in
    let size : n ≡ end - (at + 1) = omega arith in
    let last = closed d end inside closing in
    let holds : content plain t ≡ Some (bytes_between d (at + 1) end) =
    plain_content t ∙ ap (λ l. prepend (take n t) (content plain l)) rest ∙ ap (prepend (take n t)) last.0 ∙ ap Some (append-nil (take n t)) ∙ ap (λ k. Some (take k t)) size in
    opened d at _ h is holds ∙ ap (λ ls. token (string (bytes_between d (at + 1) end)) ∷ ls) (plain_lexemes t ∙ ap (lex in_string) rest ∙ last.1)

-- ---- with escapes

pub past_plain : (d : List ℕ) (at end : ℕ) → end ≡ at + prefix_len is_plain (drop at d) → lex in_string (drop at d) ≡ lex in_string (drop end d)
past_plain d at end is = plain_lexemes (drop at d) ∙ ap (lex in_string) (drop-drop (prefix_len is_plain (drop at d)) at d ∙ ap (λ k. drop k d) (sym is))

escape : (y : ℕ) (zs : List ℕ) → lex in_string (92 ∷ y ∷ zs) ≡ lex in_string zs
unfolding lex
escape y zs = refl

pub past_escape : (d : List ℕ) (i : ℕ) → i + 1 < length d → get_or d i 0 ≡ 92 → lex in_string (drop i d) ≡ lex in_string (drop (i + 2) d)
past_escape d i h is =
    let two : i + 1 + 1 ≡ i + 2 = omega arith in
    ap (lex in_string) (drop_more d i 0 (omega arith) ∙ ap (λ x. x ∷ drop (i + 1) d) is ∙ ap (λ t. 92 ∷ t) (drop_more d (i + 1) 0 h)) ∙ escape (get_or d (i + 1) 0) (drop (i + 1 + 1) d) ∙ ap (λ k. lex in_string (drop k d)) two
