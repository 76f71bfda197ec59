-- A text with escapes stands for the same, whatever is behind its closing quote.
use Rattle.std.proofs.Common.{◌≡◌, ℕ, ◌+◌, ◌-◌, ◌<◌, ◌≤◌, ◌==◌, ◌&&◌, Bool, true, false, cond, List, [], ◌∷◌, ◌++◌, length, take, drop, get_or, Option, Some, None, nat_lt, option_and_then, refl, sym, ap, ◌∙◌, arith}
use Rattle.std.specs.Char.{encode_utf8}
use Rattle.std.proofs.lemmas.List.{take-append-drop, drop-take, drop-drop}
use Rattle.json.specs.Token.{Token, begin_object, end_object, begin_array, end_array, key, string, number, boolean, null, bad}
use Rattle.json.specs.Text.{code_unit, short_escape, is_high_surrogate, is_low_surrogate, surrogate_pair, Within, plain, after_backslash, after_u, after_high, prepend, content}
use Rattle.json.specs.Lex.{Lexeme, token, string_token, in_string, lex, Place, fresh, begins_colon, place_token, punctuate, tokens}
use Rattle.gltf_schema.specs.Lexemes.{lexemes_at, IsTokenAt}
use Rattle.gltf_schema.proofs.Quotes.{opened}

-- ---- more bytes behind

abbrev Stays : Option (List ℕ) → Option (List ℕ) → Type 0
Stays o more = (s : List ℕ) → o ≡ Some s → more ≡ Some s

none_stays : (more : Option (List ℕ)) → Stays None more
none_stays more s e = absurd (cc)

same_stays : (o : Option (List ℕ)) → Stays o o
same_stays o s e = e

either_stays : (b : Bool) (x y x' y' : Option (List ℕ)) → Stays x x' → Stays y y' → Stays (cond b x y) (cond b x' y')
either_stays true x y x' y' p q = p
either_stays false x y x' y' p q = q

prepend_stays : (bytes : List ℕ) (o o' : Option (List ℕ)) → Stays o o' → Stays (prepend bytes o) (prepend bytes o')
prepend_stays bytes None o' p s e = absurd (cc)
prepend_stays bytes (Some t) o' p s e = ap (prepend bytes) (p t refl) ∙ e

then_stays : (u : Option ℕ) (f f' : ℕ → Option (List ℕ)) → ((n : ℕ) → Stays (f n) (f' n)) → Stays (option_and_then f u) (option_and_then f' u)
then_stays None f f' p s e = absurd (cc)
then_stays (Some n) f f' p s e = p n s e

content_stays : (w : Within) (xs ys : List ℕ) → Stays (content w xs) (content w (xs ++ ys))
unfolding content
content_stays plain [] ys = none_stays _
content_stays plain (x ∷ xs) ys =
    either_stays (x == 34) _ _ _ _ (same_stays _) (either_stays (x == 92) _ _ _ _ (content_stays after_backslash xs ys) (either_stays (nat_lt x 32) _ _ _ _ (same_stays _) (prepend_stays (x ∷ []) _ _ (content_stays plain xs ys))))
content_stays after_backslash [] ys = none_stays _
content_stays after_backslash (x ∷ xs) ys =
    either_stays (x == 117) _ _ _ _ (content_stays after_u xs ys) (then_stays (short_escape x) _ _ (λ c. prepend_stays (c ∷ []) _ _ (content_stays plain xs ys)))
content_stays after_u [] ys = none_stays _
content_stays after_u (a ∷ []) ys = none_stays _
content_stays after_u (a ∷ b ∷ []) ys = none_stays _
content_stays after_u (a ∷ b ∷ c ∷ []) ys = none_stays _
content_stays after_u (a ∷ b ∷ c ∷ d ∷ xs) ys =
    then_stays (code_unit a b c d) _ _ (λ u. either_stays (is_high_surrogate u) _ _ _ _ (content_stays (after_high u) xs ys) (either_stays (is_low_surrogate u) _ _ _ _ (same_stays _) (prepend_stays (encode_utf8 u) _ _ (content_stays plain xs ys))))
content_stays (after_high h) [] ys = none_stays _
content_stays (after_high h) (s ∷ []) ys = none_stays _
content_stays (after_high h) (s ∷ u ∷ []) ys = none_stays _
content_stays (after_high h) (s ∷ u ∷ a ∷ []) ys = none_stays _
content_stays (after_high h) (s ∷ u ∷ a ∷ b ∷ []) ys = none_stays _
content_stays (after_high h) (s ∷ u ∷ a ∷ b ∷ c ∷ []) ys = none_stays _
content_stays (after_high h) (s ∷ u ∷ a ∷ b ∷ c ∷ d ∷ xs) ys =
    either_stays ((s == 92) && (u == 117)) _ _ _ _ (then_stays (code_unit a b c d) _ _ (λ l. either_stays (is_low_surrogate l) _ _ _ _ (prepend_stays (encode_utf8 (surrogate_pair h l)) _ _ (content_stays plain xs ys)) (same_stays _))) (same_stays _)

-- ---- the one token of a text in quotes

abbrev string_in : List Token → Option (List ℕ)
string_in [] = None
string_in (begin_object ∷ ts) = None
string_in (end_object ∷ ts) = None
string_in (begin_array ∷ ts) = None
string_in (end_array ∷ ts) = None
string_in (key s ∷ ts) = None
string_in (string s ∷ ts) = Some s
string_in (number s ∷ ts) = None
string_in (boolean b ∷ ts) = None
string_in (null ∷ ts) = None
string_in (bad ∷ ts) = None

held : (o : Option (List ℕ)) (b : Bool) (k : Place → List Token) (s : List ℕ) → string_in (place_token fresh (string_token o) b k) ≡ Some s → o ≡ Some s
held None b k s e = e
held (Some t) true k s e = absurd (cc)
held (Some t) false k s e = e

first : (o : Option (List ℕ)) (ls : List Lexeme) (s : List ℕ) → string_in (punctuate fresh (token (string_token o) ∷ ls)) ≡ Some s → o ≡ Some s
unfolding punctuate
first o ls s e = held o (begins_colon ls) (λ n. punctuate n ls) s e

pub quoted_content : (q s : List ℕ) (rest : List Token) → 0 < length q → get_or q 0 0 ≡ 34 → tokens q ≡ string s ∷ rest → content plain (drop 1 q) ≡ Some s
quoted_content q s rest some is e =
    first (content plain (drop 1 q)) (lex in_string (drop 1 q)) s (ap (λ ls. string_in (punctuate fresh ls)) (sym (opened q 0 _ some is refl)) ∙ ap string_in e)

-- ---- in the text around it

pub escaped_at : (d s : List ℕ) (at end : ℕ) → at < length d → get_or d at 0 ≡ 34 → at + 1 ≤ end → content plain (drop 1 (take (end - at) (drop at d))) ≡ Some s → lex in_string (drop (at + 1) d) ≡ lexemes_at d end → IsTokenAt d at (string s) end
escaped_at d s at end h is far holds behind =
    let n = end - (at + 1) in
    let t = drop (at + 1) d in
    let size : end - at ≡ 1 + n = omega arith in
    let inner : drop 1 (take (end - at) (drop at d)) ≡ take n t = ap (λ k. drop 1 (take k (drop at d))) size ∙ drop-take 1 n (drop at d) ∙ ap (take n) (drop-drop 1 at d) in
    let here : content plain t ≡ Some s = ap (content plain) (sym (take-append-drop n t)) ∙ content_stays plain (take n t) (drop n t) s (ap (content plain) (sym inner) ∙ holds) in
    opened d at (Some s) h is here ∙ ap (λ ls. token (string s) ∷ ls) behind
