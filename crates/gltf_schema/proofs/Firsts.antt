-- What the first lexeme can be, by the first byte.
use Rattle.std.proofs.Common.{◌≡◌, ◌≤◌, ◌⊎◌, inl, inr, ℕ, ◌+◌, ◌<◌, ◌==◌, ◌||◌, Bool, true, false, cond, List, [], ◌∷◌, length, drop, get_or, Option, Some, None, refl, sym, ap, ◌∙◌, subst}
use Rattle.std.proofs.lemmas.List.{drop_more, drop_all, get_or_default}
use Rattle.std.proofs.lemmas.Bool.{true≢false, false≢true, eqb-true, cases_lt}
use Rattle.std.specs.Prelude.{⊤}
use Rattle.json.specs.Token.{Token, begin_object, end_object, begin_array, end_array, key, string, number, boolean, null, bad}
use Rattle.json.specs.Text.{content, plain}
use Rattle.json.specs.Word.{is_operator, is_space, head, ends_word, number_before, after_number, word}
use Rattle.json.specs.Lex.{Lexeme, token, comma, colon, quote, backslash, operator, space, other, class, operator_lexeme, string_token, Mode, between, in_word, in_string, lex_byte, lex}
use Rattle.json.specs.Lex.{Place, fresh, after_value, after_comma, after_key, begins_colon, may_begin, may_close, if_allowed, place_token, punctuate}
use Rattle.json.specs.Align.{is_blank}
use Rattle.json.specs.Json.{after_end_array}
use Rattle.gltf_schema.specs.Lexemes.{lexemes_at, IsNoNull}

-- ---- the cases

module _ (x : ℕ) (xs : List ℕ) (P : List Lexeme → Type 0) (text : (ls : List Lexeme) → P (token (string_token (content plain xs)) ∷ ls)) (stray : (ls : List Lexeme) → P (token bad ∷ ls))
    (mark : is_operator x ≡ true → (ls : List Lexeme) → P (operator_lexeme x ∷ ls)) (a_word : (ls : List Lexeme) → P (token (word (x ∷ xs)) ∷ ls)) where
  by_tests : (q b o s : Bool) (k : Mode → List Lexeme) → o ≡ is_operator x → is_blank (cond q quote (cond b backslash (cond o operator (cond s space other)))) ≡ false
      → P (lex_byte between (cond q quote (cond b backslash (cond o operator (cond s space other)))) x xs k)
  by_tests true b o s k e solid = text (k in_string)
  by_tests false true o s k e solid = stray (k in_word)
  by_tests false false true s k e solid = mark (sym e) (k between)
  by_tests false false false true k e solid = absurd (true≢false solid)
  by_tests false false false false k e solid = a_word (k in_word)

  pub by_byte : is_blank (class x) ≡ false → P (lex between (x ∷ xs))
  unfolding lex
  by_byte solid = by_tests (x == 34) (x == 92) (is_operator x) (is_space x) (λ m. lex m xs) refl solid

pub no_lexemes : (d : List ℕ) (at : ℕ) → length d ≤ at → lexemes_at d at ≡ []
unfolding lex
no_lexemes d at h = ap (lex between) (drop_all at d h)

pub first_byte : (d : List ℕ) (at : ℕ) (P : List Lexeme → Type 0) → at < length d → P (lex between (get_or d at 0 ∷ drop (at + 1) d)) → P (lexemes_at d at)
first_byte d at P h p = subst (λ t. P (lex between t)) (sym (drop_more d at 0 h)) p

-- ---- a word is a number, a literal or bad

abbrev pub IsWord : Token → Type 0
IsWord begin_object = ⊥
IsWord end_object = ⊥
IsWord begin_array = ⊥
IsWord end_array = ⊥
IsWord (key s) = ⊥
IsWord (string s) = ⊥
IsWord (number s) = ⊤
IsWord (boolean v) = ⊤
IsWord null = ⊤
IsWord bad = ⊤

either : (P : Token → Type 0) (b : Bool) (x y : Token) → (b ≡ true → P x) → P y → P (cond b x y)
either P true x y p q = p refl
either P false x y p q = q

number_word : (P : Token → Type 0) (t : List ℕ) (o : Option (List ℕ)) → ((s : List ℕ) → P (number s)) → P bad → P (number_before t o)
number_word P t None p q = q
number_word P t (Some r) p q = either P (ends_word r) _ bad (λ e. p _) q

pub by_word : (P : Token → Type 0) (t : List ℕ) → ((s : List ℕ) → P (number s)) → ((b : Bool) → P (boolean b)) → ((head t == 110) ≡ true → P null) → P bad → P (word t)
unfolding word
by_word P t n b z bad_one =
    either P (head t == 116) _ _ (λ e. either P _ (boolean true) bad (λ f. b true) bad_one)
    (either P (head t == 102) _ _ (λ e. either P _ (boolean false) bad (λ f. b false) bad_one)
    (either P (head t == 110) _ _ (λ e. either P _ null bad (λ f. z e) bad_one) (number_word P t (after_number t) n bad_one)))

-- ---- no colon is next

by_text : (P : Token → Type 0) (o : Option (List ℕ)) → ((s : List ℕ) → P (string s)) → P bad → P (string_token o)
by_text P None f g = g
by_text P (Some s) f g = f s

marks : (P : Lexeme → Type 0) (a b c d e f : Bool) → (a || b || c || d || e || f) ≡ true → (e ≡ true → P colon) → P (token begin_object) → P (token end_object) → P (token begin_array) → (d ≡ true → P (token end_array)) → P comma
    → P (cond a (token begin_object) (cond b (token end_object) (cond c (token begin_array) (cond d (token end_array) (cond f comma colon)))))
marks P true b c d e f h at_colon w x y z v = w
marks P false true c d e f h at_colon w x y z v = x
marks P false false true d e f h at_colon w x y z v = y
marks P false false false true e f h at_colon w x y z v = z refl
marks P false false false false true true h at_colon w x y z v = v
marks P false false false false true false h at_colon w x y z v = at_colon refl
marks P false false false false false true h at_colon w x y z v = v
marks P false false false false false false h at_colon w x y z v = absurd (false≢true h)

pub by_mark : (P : Lexeme → Type 0) (x : ℕ) → is_operator x ≡ true → (x ≡ 58 → P colon) → P (token begin_object) → P (token end_object) → P (token begin_array) → (x ≡ 93 → P (token end_array)) → P comma → P (operator_lexeme x)
by_mark P x h at_colon w a y z v = marks P (x == 123) (x == 125) (x == 91) (x == 93) (x == 58) (x == 44) h (λ e. at_colon (eqb-true x 58 e)) w a y (λ e. z (eqb-true x 93 e)) v

abbrev IsNoColon : List Lexeme → Type 0
IsNoColon ls = begins_colon ls ≡ false

pub no_colon : (d : List ℕ) (at : ℕ) → at ≤ length d → (at < length d → is_blank (class (get_or d at 32)) ≡ false) → (get_or d at 32 ≡ 58 → ⊥) → begins_colon (lexemes_at d at) ≡ false
no_colon d at within solid other_byte = go (cases_lt at (length d))
  where
    go : (at < length d) ⊎ (length d ≤ at) → begins_colon (lexemes_at d at) ≡ false
    go (inr past) = ap begins_colon (no_lexemes d at past)
    go (inl h) =
        let same = get_or_default d at 0 32 h in
        first_byte d at IsNoColon h (by_byte (get_or d at 0) (drop (at + 1) d) IsNoColon (λ ls. refl) (λ ls. refl)
        (λ o ls. by_mark (λ l. begins_colon (l ∷ ls) ≡ false) (get_or d at 0) o (λ e. absurd (other_byte (sym same ∙ e))) refl refl refl (λ e. refl) refl) (λ ls. refl) (ap (λ y. is_blank (class y)) same ∙ solid h))

-- ---- which token is not the first

abbrev pub first_is : (Token → Bool) → List Token → Bool
first_is F [] = false
first_is F (t ∷ ts) = F t

-- a token that is none of most
pub record IsOther (F : Token → Bool) : Type 0 where
  pub of_bad : F bad ≡ false
  pub of_key : (s : List ℕ) → F (key s) ≡ false
  pub of_string : (s : List ℕ) → F (string s) ≡ false
  pub of_number : (s : List ℕ) → F (number s) ≡ false
  pub of_boolean : (b : Bool) → F (boolean b) ≡ false
  pub of_object : F begin_object ≡ false
  pub of_object_end : F end_object ≡ false
  pub of_array : F begin_array ≡ false

allowed_first : (F : Token → Bool) (b : Bool) (t : Token) (k : Place → List Token) (n : Place) → F bad ≡ false → F t ≡ false → first_is F (if_allowed b t k n) ≡ false
allowed_first F true t k n is_bad e = e
allowed_first F false t k n is_bad e = is_bad

placed : (F : Token → Bool) (p : Place) (t : Token) (b : Bool) (k : Place → List Token) → IsOther F → F t ≡ false → first_is F (place_token p t b k) ≡ false
placed F p begin_object b k o e = allowed_first F (may_begin p) begin_object k fresh o.of_bad e
placed F p end_object b k o e = allowed_first F (may_close p) end_object k after_value o.of_bad e
placed F p begin_array b k o e = allowed_first F (may_begin p) begin_array k fresh o.of_bad e
placed F p end_array b k o e = allowed_first F (may_close p) end_array k after_value o.of_bad e
placed F p (key s) b k o e = o.of_bad
placed F p (string s) true k o e = allowed_first F (may_begin p) (key s) k after_key o.of_bad (o.of_key s)
placed F p (string s) false k o e = allowed_first F (may_begin p) (string s) k after_value o.of_bad e
placed F p (number s) b k o e = allowed_first F (may_begin p) (number s) k after_value o.of_bad e
placed F p (boolean v) b k o e = allowed_first F (may_begin p) (boolean v) k after_value o.of_bad e
placed F p null b k o e = allowed_first F (may_begin p) null k after_value o.of_bad e
placed F p bad b k o e = o.of_bad

token_first : (F : Token → Bool) (p : Place) (t : Token) (ls : List Lexeme) → IsOther F → F t ≡ false → first_is F (punctuate p (token t ∷ ls)) ≡ false
unfolding punctuate
token_first F p t ls o e = placed F p t (begins_colon ls) (λ n. punctuate n ls) o e

mark_first : (F : Token → Bool) (p : Place) (ls : List Lexeme) → IsOther F → may_begin p ≡ true → (first_is F (punctuate p (comma ∷ ls)) ≡ false) × (first_is F (punctuate p (colon ∷ ls)) ≡ false)
unfolding punctuate
mark_first F fresh ls o e = (o.of_bad, o.of_bad)
mark_first F after_value ls o e = absurd (false≢true e)
mark_first F after_comma ls o e = (o.of_bad, o.of_bad)
mark_first F after_key ls o e = absurd (false≢true e)

none_first : (F : Token → Bool) (p : Place) → IsOther F → may_begin p ≡ true → first_is F (punctuate p []) ≡ false
unfolding punctuate
none_first F fresh o e = refl
none_first F after_value o e = absurd (false≢true e)
none_first F after_comma o e = o.of_bad
none_first F after_key o e = absurd (false≢true e)

pub not_first : (F : Token → Bool) (p : Place) (d : List ℕ) (at : ℕ) → IsOther F → may_begin p ≡ true → at ≤ length d → (at < length d → is_blank (class (get_or d at 32)) ≡ false)
    → (get_or d at 32 ≡ 93 → F end_array ≡ false) → (get_or d at 32 ≡ 110 → F null ≡ false) → first_is F (punctuate p (lexemes_at d at)) ≡ false
not_first F p d at o may within solid at_bracket at_n = go (cases_lt at (length d))
  where
    go : (at < length d) ⊎ (length d ≤ at) → first_is F (punctuate p (lexemes_at d at)) ≡ false
    go (inr past) = ap (λ ls. first_is F (punctuate p ls)) (no_lexemes d at past) ∙ none_first F p o may
    go (inl h) =
        let x = get_or d at 0 in
        let xs = drop (at + 1) d in
        let same = get_or_default d at 0 32 h in
        let P = λ (ls : List Lexeme). first_is F (punctuate p ls) ≡ false in
        let T = λ (t : Token). F t ≡ false in
        first_byte d at P h (by_byte x xs P
        (λ ls. token_first F p (string_token (content plain xs)) ls o (by_text T (content plain xs) o.of_string o.of_bad))
        (λ ls. token_first F p bad ls o o.of_bad)
        (λ m ls. by_mark (λ l. P (l ∷ ls)) x m (λ e. (mark_first F p ls o may).1) (token_first F p begin_object ls o o.of_object) (token_first F p end_object ls o o.of_object_end) (token_first F p begin_array ls o o.of_array)
        (λ e. token_first F p end_array ls o (at_bracket (sym same ∙ e))) (mark_first F p ls o may).0)
        (λ ls. token_first F p (word (x ∷ xs)) ls o (by_word T (x ∷ xs) o.of_number o.of_boolean (λ e. at_n (sym same ∙ eqb-true x 110 e)) o.of_bad))
        (ap (λ y. is_blank (class y)) same ∙ solid h))

abbrev is_end_array : Token → Bool
is_end_array begin_object = false
is_end_array end_object = false
is_end_array begin_array = false
is_end_array end_array = true
is_end_array (key s) = false
is_end_array (string s) = false
is_end_array (number s) = false
is_end_array (boolean b) = false
is_end_array null = false
is_end_array bad = false

abbrev is_null : Token → Bool
is_null begin_object = false
is_null end_object = false
is_null begin_array = false
is_null end_array = false
is_null (key s) = false
is_null (string s) = false
is_null (number s) = false
is_null (boolean b) = false
is_null null = true
is_null bad = false

other_than_end : IsOther is_end_array
other_than_end = record { of_bad = refl; of_key = λ s. refl; of_string = λ s. refl; of_number = λ s. refl; of_boolean = λ b. refl; of_object = refl; of_object_end = refl; of_array = refl }

other_than_null : IsOther is_null
other_than_null = record { of_bad = refl; of_key = λ s. refl; of_string = λ s. refl; of_number = λ s. refl; of_boolean = λ b. refl; of_object = refl; of_object_end = refl; of_array = refl }

goes_on : (ts : List Token) → first_is is_end_array ts ≡ false → after_end_array ts ≡ None
goes_on [] e = refl
goes_on (begin_object ∷ ts) e = refl
goes_on (end_object ∷ ts) e = refl
goes_on (begin_array ∷ ts) e = refl
goes_on (end_array ∷ ts) e = absurd (true≢false e)
goes_on (key s ∷ ts) e = refl
goes_on (string s ∷ ts) e = refl
goes_on (number s ∷ ts) e = refl
goes_on (boolean b ∷ ts) e = refl
goes_on (null ∷ ts) e = refl
goes_on (bad ∷ ts) e = refl

pub no_array_end : (p : Place) (d : List ℕ) (at : ℕ) → may_begin p ≡ true → at ≤ length d → (at < length d → is_blank (class (get_or d at 32)) ≡ false) → (get_or d at 32 ≡ 93 → ⊥) → after_end_array (punctuate p (lexemes_at d at)) ≡ None
no_array_end p d at may within solid other_byte = goes_on _ (not_first is_end_array p d at other_than_end may within solid (λ e. absurd (other_byte e)) (λ e. refl))

pub no_null : (p : Place) (d : List ℕ) (at : ℕ) → may_begin p ≡ true → at ≤ length d → (at < length d → is_blank (class (get_or d at 32)) ≡ false) → (get_or d at 32 ≡ 110 → ⊥) → IsNoNull (punctuate p (lexemes_at d at))
no_null p d at may within solid other_byte rest is = true≢false (sym (ap (first_is is_null) is) ∙ not_first is_null p d at other_than_null may within solid (λ e. refl) (λ e. absurd (other_byte e)))

-- behind a comma no array ends
comma_goes_on : (t : Token) (b : Bool) (k : Place → List Token) → after_end_array (place_token after_comma t b k) ≡ None
comma_goes_on begin_object b k = refl
comma_goes_on end_object b k = refl
comma_goes_on begin_array b k = refl
comma_goes_on end_array b k = refl
comma_goes_on (key s) b k = refl
comma_goes_on (string s) true k = refl
comma_goes_on (string s) false k = refl
comma_goes_on (number s) b k = refl
comma_goes_on (boolean v) b k = refl
comma_goes_on null b k = refl
comma_goes_on bad b k = refl

pub no_end_behind_comma : (ls : List Lexeme) → after_end_array (punctuate after_comma ls) ≡ None
unfolding punctuate
no_end_behind_comma [] = refl
no_end_behind_comma (token t ∷ ls) = comma_goes_on t (begins_colon ls) (λ n. punctuate n ls)
no_end_behind_comma (comma ∷ ls) = refl
no_end_behind_comma (colon ∷ ls) = refl
