-- How many tokens begin in the first bytes of a text, a byte at a time.
use Rattle.std.proofs.Common.{◌≡◌, Bool, false, ◌||◌, fold, ℕ, zero, suc, ◌+◌, ◌<◌, cond, List, [], ◌∷◌, ◌++◌, length, get_or, take, count_by, Some, slice_get, unwrap_or, refl, ap, subst, ◌∙◌, arith}
use Rattle.std.proofs.lemmas.List.{take_more}
use Rattle.std.proofs.lemmas.List.Sums.{sum_by-cons, fold_more}
use Rattle.std.proofs.lemmas.Option.{none-some}
use Rattle.std.proofs.lemmas.Bool.Decides.{nat_tests}
use Rattle.json.specs.Token.{bad}
use Rattle.json.specs.Text.{content, plain}
use Rattle.json.specs.Word.{is_operator, is_space, word}
use Rattle.json.specs.Lex.{Lexeme, token, Mode, Class, quote, backslash, operator, space, other, class, operator_lexeme, string_token, lex_byte, between, in_word, in_string, in_escape, lex}
use Rattle.gltf_findings_lines.specs.Positions.{is_token, tokens_begun}
use Rattle.gltf_findings_lines.specs.Modes.{mode_behind, token_begins, mode_at, begun_at, RestsAt}

abbrev counted : Lexeme → ℕ
counted l = cond (is_token l) 1 0

abbrev token_count : Mode → List ℕ → ℕ
token_count m xs = count_by is_token (lex m xs)

-- Whether the byte x begins a token depends on its mode and its class alone: a string or a word that is cut off is still a token.
at_byte : (m : Mode) (c : Class) (x : ℕ) (xs : List ℕ) (k : Mode → List Lexeme) → count_by is_token (lex_byte m c x xs k) ≡ cond (token_begins m c x) 1 0 + count_by is_token (k (mode_behind m c))
at_byte between quote x xs k = sum_by-cons counted (token (string_token (content plain xs))) (k in_string)
at_byte between backslash x xs k = sum_by-cons counted (token bad) (k in_word)
at_byte between operator x xs k = sum_by-cons counted (operator_lexeme x) (k between)
at_byte between space x xs k = omega arith
at_byte between other x xs k = sum_by-cons counted (token (word (x ∷ xs))) (k in_word)
at_byte in_word quote x xs k = omega arith
at_byte in_word backslash x xs k = omega arith
at_byte in_word operator x xs k = sum_by-cons counted (operator_lexeme x) (k between)
at_byte in_word space x xs k = omega arith
at_byte in_word other x xs k = omega arith
at_byte in_string quote x xs k = omega arith
at_byte in_string backslash x xs k = omega arith
at_byte in_string operator x xs k = omega arith
at_byte in_string space x xs k = omega arith
at_byte in_string other x xs k = omega arith
at_byte in_escape c x xs k = omega arith

token_count-cons : (m : Mode) (x : ℕ) (xs : List ℕ) → token_count m (x ∷ xs) ≡ cond (token_begins m (class x) x) 1 0 + token_count (mode_behind m (class x)) xs
unfolding lex
token_count-cons m x xs = at_byte m (class x) x xs (λ next. lex next xs)

token_count-nil : (m : Mode) → token_count m [] ≡ 0
unfolding lex
token_count-nil m = refl

token_count-append : (m : Mode) (xs ys : List ℕ) → token_count m (xs ++ ys) ≡ token_count m xs + token_count (fold (λ n x. mode_behind n (class x)) m xs) ys
token_count-append m [] ys = omega (arith, token_count-nil m)
token_count-append m (x ∷ xs) ys = omega (arith, token_count-cons m x (xs ++ ys), token_count-cons m x xs, token_count-append (mode_behind m (class x)) xs ys)

pub tokens_begun-nil : tokens_begun [] ≡ 0
tokens_begun-nil = token_count-nil between

-- ---- one more byte

module _ (text : List ℕ) (i : ℕ) (lt : i < length text) where
  abbrev byte : ℕ
  byte = get_or text i 0

  begun_more : begun_at text (i + 1) ≡ begun_at text i + cond (token_begins (mode_at text i) (class byte) byte) 1 0
  begun_more =
      let m = mode_at text i in
      ap tokens_begun (take_more text i 0 lt) ∙ token_count-append between (take i text) (byte ∷ []) ∙ ap (λ n. begun_at text i + n) (token_count-cons m byte [] ∙ omega (arith, token_count-nil (mode_behind m (class byte))))

  mode_more : mode_at text (i + 1) ≡ mode_behind (mode_at text i) (class byte)
  mode_more = fold_more (λ m x. mode_behind m (class x)) between text i 0 lt

-- ---- the byte at an offset is read as between two lexemes

pub rests_between : (text : List ℕ) (i : ℕ) → mode_at text i ≡ between → RestsAt text i
rests_between text i e =
    record {
      begins = λ _. ap (λ m. token_begins m (class (get_or text i 0)) (get_or text i 0)) e;
      behind = λ _. ap (λ m. mode_behind m (class (get_or text i 0))) e;
    }

-- ---- what a byte does in a mode

-- a byte that ends no word begins no token in it, and the word goes on
word_begins : (x : ℕ) → (is_operator x || is_space x) ≡ false → token_begins in_word (class x) x ≡ false
word_begins x e = grind (arith, nat_tests)

word_behind : (x : ℕ) → (is_operator x || is_space x) ≡ false → mode_behind in_word (class x) ≡ in_word
word_behind x e = grind (arith, nat_tests)

string_behind : (x : ℕ) → (x ≡ 34 → ⊥) → (x ≡ 92 → ⊥) → mode_behind in_string (class x) ≡ in_string
string_behind x q b = grind (arith, nat_tests)

-- a byte that begins no token there is a separator
pub separator_behind : (x : ℕ) → token_begins between (class x) x ≡ false → mode_behind between (class x) ≡ between
separator_behind x e = grind (arith, nat_tests)

-- ---- from an offset i to the next, j

module _ (text : List ℕ) (i j : ℕ) (lt : i < length text) (next : j ≡ i + 1) where
  mode_step : (m : Mode) → mode_at text i ≡ m → mode_at text j ≡ mode_behind m (class (get_or text i 0))
  mode_step m e = ap (mode_at text) next ∙ mode_more text i lt ∙ ap (λ n. mode_behind n (class (get_or text i 0))) e

  count_step : (m : Mode) → mode_at text i ≡ m → begun_at text j ≡ begun_at text i + cond (token_begins m (class (get_or text i 0)) (get_or text i 0)) 1 0
  count_step m e = ap (begun_at text) next ∙ begun_more text i lt ∙ ap (λ n. begun_at text i + cond (token_begins n (class (get_or text i 0)) (get_or text i 0)) 1 0) e

  pub word_goes_on : mode_at text i ≡ in_word → (is_operator (get_or text i 0) || is_space (get_or text i 0)) ≡ false → (begun_at text j ≡ begun_at text i) × (mode_at text j ≡ in_word)
  word_goes_on e f =
      let x = get_or text i 0 in
      (count_step in_word e ∙ ap (λ b. begun_at text i + cond b 1 0) (word_begins x f) ∙ omega arith, mode_step in_word e ∙ word_behind x f)

  pub string_goes_on : mode_at text i ≡ in_string → (get_or text i 0 ≡ 34 → ⊥) → (get_or text i 0 ≡ 92 → ⊥) → (begun_at text j ≡ begun_at text i) × (mode_at text j ≡ in_string)
  string_goes_on e q b = (count_step in_string e ∙ omega arith, mode_step in_string e ∙ string_behind (get_or text i 0) q b)

  pub string_ends : mode_at text i ≡ in_string → get_or text i 0 ≡ 34 → (begun_at text j ≡ begun_at text i) × (mode_at text j ≡ between)
  string_ends e q = (count_step in_string e ∙ omega arith, mode_step in_string e ∙ ap (λ x. mode_behind in_string (class x)) q)

  pub escape_begins : mode_at text i ≡ in_string → get_or text i 0 ≡ 92 → (begun_at text j ≡ begun_at text i) × (mode_at text j ≡ in_escape)
  escape_begins e q = (count_step in_string e ∙ omega arith, mode_step in_string e ∙ ap (λ x. mode_behind in_string (class x)) q)

  pub escape_ends : mode_at text i ≡ in_escape → (begun_at text j ≡ begun_at text i) × (mode_at text j ≡ in_string)
  escape_ends e = (count_step in_escape e ∙ omega arith, mode_step in_escape e)

  -- where the byte is read as between two lexemes
  pub rest_count : RestsAt text i → (b : Bool) → token_begins between (class (get_or text i 0)) (get_or text i 0) ≡ b → begun_at text j ≡ begun_at text i + cond b 1 0
  rest_count r b e = ap (begun_at text) next ∙ begun_more text i lt ∙ ap (λ t. begun_at text i + cond t 1 0) (r.begins lt ∙ e)

  pub rest_behind : RestsAt text i → mode_at text j ≡ mode_behind between (class (get_or text i 0))
  rest_behind r = ap (mode_at text) next ∙ mode_more text i lt ∙ r.behind lt

-- ---- what holds of each element, by its number, and of one more

pub each_push : {A : Type 0} (P : ℕ → A → Type 0) (xs : List A) (x : A) → ((n : ℕ) (y : A) → slice_get xs n ≡ Some y → P n y) → P (length xs) x → (n : ℕ) (y : A) → slice_get (xs ++ x ∷ []) n ≡ Some y → P n y
each_push P [] x old new zero y e = subst (P 0) (ap (λ o. unwrap_or o x) e) new
each_push P [] x old new (suc n) y e = absurd (none-some y e)
each_push P (z ∷ zs) x old new zero y e = old zero y e
each_push P (z ∷ zs) x old new (suc n) y e = each_push (λ k. P (suc k)) zs x (λ k. old (suc k)) new n y e
