-- A JSON text without faults has as many tokens as begin in it.
use Rattle.std.proofs.Common.{◌≡◌, ℕ, suc, ◌+◌, Bool, true, false, cond, List, [], ◌∷◌, map, length, count_by, ◌||◌, refl, sym, ap, ◌∙◌, arith}
use Rattle.std.proofs.lemmas.List.{length-map}
use Rattle.std.proofs.lemmas.List.Sums.{sum_by-cons}
use Rattle.std.proofs.lemmas.Bool.{true≢false}
use Rattle.json.specs.Token.{Token, begin_object, end_object, begin_array, end_array, key, string, number, boolean, null, bad}
use Rattle.json.specs.Lex.{Lexeme, token, comma, colon, between, lex, Place, fresh, after_value, after_comma, after_key, begins_colon, may_begin, may_close, if_allowed, place_token, punctuate, tokens}
use Rattle.json.specs.Tape.{node_token}
use Rattle.json.specs.declared.tape.Node.{Node}
use Rattle.json.specs.declared.tape.Node.TheVariants.{Object, EndObject, Array, EndArray, Key, String, Number, Bool as Boolean, Null}
use Rattle.gltf_findings_lines.specs.Positions.{is_token, tokens_begun}

abbrev is_bad : Token → Bool
is_bad begin_object = false
is_bad end_object = false
is_bad begin_array = false
is_bad end_array = false
is_bad (key s) = false
is_bad (string s) = false
is_bad (number s) = false
is_bad (boolean b) = false
is_bad null = false
is_bad bad = true

abbrev has_bad : List Token → Bool
has_bad [] = false
has_bad (t ∷ ts) = is_bad t || has_bad ts

abbrev counted : Lexeme → ℕ
counted l = cond (is_token l) 1 0

abbrev Counts : Place → List Lexeme → Type 0
Counts p ls = has_bad (punctuate p ls) ≡ false → length (punctuate p ls) ≡ count_by is_token ls

one_more : (t : Token) (ls : List Lexeme) (n : ℕ) → n ≡ count_by is_token ls → suc n ≡ count_by is_token (token t ∷ ls)
one_more t ls n e = omega (arith, sum_by-cons counted (token t) ls)

-- what follows a comma or a colon
none_more : (l : Lexeme) (ls : List Lexeme) (n : ℕ) → is_token l ≡ false → n ≡ count_by is_token ls → n ≡ count_by is_token (l ∷ ls)
none_more l ls n k e = e ∙ omega arith ∙ ap (λ b. cond b 1 0 + count_by is_token ls) (sym k) ∙ sym (sum_by-cons counted l ls)

at_allowed : (b : Bool) (t : Token) (u : Token) (ls : List Lexeme) (next : Place) → Counts next ls → is_bad t ≡ false → has_bad (if_allowed b t (λ p. punctuate p ls) next) ≡ false → length (if_allowed b t (λ p. punctuate p ls) next) ≡ count_by is_token (token u ∷ ls)
at_allowed true t u ls next h k e = one_more u ls _ (h (ap (λ b. b || has_bad (punctuate next ls)) (sym k) ∙ e))
at_allowed false t u ls next h k e = absurd (true≢false e)

abbrev Placed : Place → Token → Bool → List Lexeme → Type 0
Placed p t b ls = has_bad (place_token p t b (λ q. punctuate q ls)) ≡ false → length (place_token p t b (λ q. punctuate q ls)) ≡ count_by is_token (token t ∷ ls)

at_token : (p : Place) (t : Token) (b : Bool) (ls : List Lexeme) → ((q : Place) → Counts q ls) → Placed p t b ls
at_token p begin_object b ls h = at_allowed (may_begin p) begin_object begin_object ls fresh (h fresh) refl
at_token p end_object b ls h = at_allowed (may_close p) end_object end_object ls after_value (h after_value) refl
at_token p begin_array b ls h = at_allowed (may_begin p) begin_array begin_array ls fresh (h fresh) refl
at_token p end_array b ls h = at_allowed (may_close p) end_array end_array ls after_value (h after_value) refl
at_token p (key s) b ls h = λ e. absurd (true≢false e)
at_token p (string s) true ls h = at_allowed (may_begin p) (key s) (string s) ls after_key (h after_key) refl
at_token p (string s) false ls h = at_allowed (may_begin p) (string s) (string s) ls after_value (h after_value) refl
at_token p (number s) b ls h = at_allowed (may_begin p) (number s) (number s) ls after_value (h after_value) refl
at_token p (boolean v) b ls h = at_allowed (may_begin p) (boolean v) (boolean v) ls after_value (h after_value) refl
at_token p null b ls h = at_allowed (may_begin p) null null ls after_value (h after_value) refl
at_token p bad b ls h = λ e. absurd (true≢false e)

length-punctuate : (ls : List Lexeme) (p : Place) → Counts p ls
unfolding punctuate
length-punctuate [] fresh = λ e. refl
length-punctuate [] after_value = λ e. refl
length-punctuate [] after_comma = λ e. absurd (true≢false e)
length-punctuate [] after_key = λ e. absurd (true≢false e)
length-punctuate (token t ∷ ls) fresh = at_token fresh t (begins_colon ls) ls (length-punctuate ls)
length-punctuate (token t ∷ ls) after_value = at_token after_value t (begins_colon ls) ls (length-punctuate ls)
length-punctuate (token t ∷ ls) after_comma = at_token after_comma t (begins_colon ls) ls (length-punctuate ls)
length-punctuate (token t ∷ ls) after_key = at_token after_key t (begins_colon ls) ls (length-punctuate ls)
length-punctuate (comma ∷ ls) fresh = λ e. absurd (true≢false e)
length-punctuate (comma ∷ ls) after_value = λ e. none_more comma ls _ refl (length-punctuate ls after_comma e)
length-punctuate (comma ∷ ls) after_comma = λ e. absurd (true≢false e)
length-punctuate (comma ∷ ls) after_key = λ e. absurd (true≢false e)
length-punctuate (colon ∷ ls) fresh = λ e. absurd (true≢false e)
length-punctuate (colon ∷ ls) after_value = λ e. absurd (true≢false e)
length-punctuate (colon ∷ ls) after_comma = λ e. absurd (true≢false e)
length-punctuate (colon ∷ ls) after_key = λ e. none_more colon ls _ refl (length-punctuate ls fresh e)

pub length-tokens : (text : List ℕ) → has_bad (tokens text) ≡ false → length (tokens text) ≡ tokens_begun text
length-tokens text = length-punctuate (lex between text) fresh

-- no node stands for `bad`
node_is_good : (n : Node) → is_bad (node_token n) ≡ false
node_is_good (Object a) = refl
node_is_good EndObject = refl
node_is_good (Array a) = refl
node_is_good EndArray = refl
node_is_good (Key s) = refl
node_is_good (String s) = refl
node_is_good (Number s) = refl
node_is_good (Boolean b) = refl
node_is_good Null = refl

nodes_are_good : (ns : List Node) → has_bad (map node_token ns) ≡ false
nodes_are_good [] = refl
nodes_are_good (n ∷ ns) = ap (λ b. b || has_bad (map node_token ns)) (node_is_good n) ∙ nodes_are_good ns

-- the nodes of a text that was read are as many as the tokens that begin in it
pub length_nodes : (text : List ℕ) (ns : List Node) → tokens text ≡ map node_token ns → length ns ≡ tokens_begun text
length_nodes text ns e = sym (length-map ns node_token) ∙ ap length (sym e) ∙ length-tokens text (ap has_bad e ∙ nodes_are_good ns)
