-- The token that is next, by what stands before it and by its first byte.
use Rattle.std.proofs.Common.{◌≡◌, ℕ, ◌+◌, ◌<◌, ◌≤◌, Bool, true, false, List, [], ◌∷◌, length, get_or, Some, None, refl, sym, ap, ◌∙◌, arith, lt_of_not-le}
use Rattle.std.proofs.lemmas.List.{get_or_default, get_or_past}
use Rattle.std.proofs.lemmas.Bool.{false≢true, true≢false}
use Rattle.json.specs.Token.{Token, begin_object, end_object, begin_array, end_array, key, string, number, boolean, null}
use Rattle.json.specs.Json.{after_end_array, read_key}
use Rattle.json.specs.Lex.{Lexeme, token, comma, colon, class, operator, operator_lexeme, Place, fresh, after_value, after_comma, after_key, begins_colon, place_token, may_begin, may_close, if_allowed, punctuate}
use Rattle.gltf_schema.specs.declared.reader.Before.{Before}
use Rattle.gltf_schema.specs.declared.reader.Before.TheVariants.{Nothing, Value, Comma}
use Rattle.gltf_schema.specs.Lexemes.{lexemes_at, tokens_at, IsTokenAt, begins_behind, ends_behind, IsBehindComma, IsNoNull}
use Rattle.json.specs.Align.{is_blank}
use Rattle.gltf_schema.proofs.Firsts.{no_array_end, no_null, no_lexemes}
use Rattle.gltf_schema.proofs.Lexing.{past_operator}

pub allowed : (b : Bool) (t : Token) (k : Place → List Token) (next : Place) → b ≡ true → if_allowed b t k next ≡ t ∷ k next
allowed b t k next e = ap (λ x. if_allowed x t k next) e

-- where a value may begin, the tokens are those of each before where one may
pub begun : (before : Before) (d : List ℕ) (at : ℕ) (ts : List Token) → begins_behind before ≡ true → ((p : Place) → may_begin p ≡ true → punctuate p (lexemes_at d at) ≡ ts) → tokens_at before d at ≡ ts
begun Nothing d at ts e f = f fresh refl
begun Value d at ts e f = absurd (false≢true e)
begun Comma d at ts e f = f after_comma refl

-- the byte that is there is none behind the end
pub is_within : (d : List ℕ) (at x : ℕ) → get_or d at 32 ≡ x → (x ≡ 32 → ⊥) → at < length d
is_within d at x is solid = lt_of_not-le (λ h. solid (sym is ∙ get_or_past d at 32 h))

pub lexeme_at : (d : List ℕ) (at next x : ℕ) → lexemes_at d next ≡ lexemes_at d at → get_or d next 32 ≡ x → (x ≡ 32 → ⊥) → class x ≡ operator → lexemes_at d at ≡ operator_lexeme x ∷ lexemes_at d (next + 1)
lexeme_at d at next x same is solid k =
    let h = is_within d next x is solid in
    sym same ∙ past_operator d next x h (sym (get_or_default d next 32 0 h) ∙ is) k

opens_object : (p : Place) (ls : List Lexeme) → may_begin p ≡ true → punctuate p (token begin_object ∷ ls) ≡ begin_object ∷ punctuate fresh ls
unfolding punctuate
opens_object p ls e = allowed (may_begin p) begin_object (λ n. punctuate n ls) fresh e

opens_array : (p : Place) (ls : List Lexeme) → may_begin p ≡ true → punctuate p (token begin_array ∷ ls) ≡ begin_array ∷ punctuate fresh ls
unfolding punctuate
opens_array p ls e = allowed (may_begin p) begin_array (λ n. punctuate n ls) fresh e

pub object_next : (before : Before) (d : List ℕ) (at next : ℕ) → begins_behind before ≡ true → lexemes_at d next ≡ lexemes_at d at → get_or d next 32 ≡ 123 → tokens_at before d at ≡ begin_object ∷ punctuate fresh (lexemes_at d (next + 1))
object_next before d at next e same is =
    begun before d at _ e (λ p may. ap (punctuate p) (lexeme_at d at next 123 same is (λ z. omega arith) refl) ∙ opens_object p (lexemes_at d (next + 1)) may)

pub array_next : (before : Before) (d : List ℕ) (at next : ℕ) → begins_behind before ≡ true → lexemes_at d next ≡ lexemes_at d at → get_or d next 32 ≡ 91 → tokens_at before d at ≡ begin_array ∷ punctuate fresh (lexemes_at d (next + 1))
array_next before d at next e same is =
    begun before d at _ e (λ p may. ap (punctuate p) (lexeme_at d at next 91 same is (λ z. omega arith) refl) ∙ opens_array p (lexemes_at d (next + 1)) may)

-- ---- a text

text_token : (p : Place) (s : List ℕ) (ls : List Lexeme) → may_begin p ≡ true → begins_colon ls ≡ false → punctuate p (token (string s) ∷ ls) ≡ string s ∷ punctuate after_value ls
unfolding punctuate
text_token p s ls e none = ap (λ b. place_token p (string s) b (λ n. punctuate n ls)) none ∙ allowed (may_begin p) (string s) (λ n. punctuate n ls) after_value e

key_token : (p : Place) (s : List ℕ) (ls : List Lexeme) → may_begin p ≡ true → punctuate p (token (string s) ∷ colon ∷ ls) ≡ key s ∷ punctuate fresh ls
unfolding punctuate
key_token p s ls e = allowed (may_begin p) (key s) (λ n. punctuate n (colon ∷ ls)) after_key e

pub text_next : (before : Before) (d : List ℕ) (at first end next : ℕ) (s : List ℕ) → begins_behind before ≡ true → lexemes_at d first ≡ lexemes_at d at → IsTokenAt d first (string s) end → lexemes_at d next ≡ lexemes_at d end
    → begins_colon (lexemes_at d next) ≡ false → tokens_at before d at ≡ string s ∷ punctuate after_value (lexemes_at d next)
text_next before d at first end next s e same is behind none =
    begun before d at _ e (λ p may. ap (punctuate p) (sym same ∙ is ∙ ap (λ ls. token (string s) ∷ ls) (sym behind)) ∙ text_token p s (lexemes_at d next) may none)

-- ---- a key

pub key_here : (p : Place) (d : List ℕ) (at end next : ℕ) (s : List ℕ) → may_begin p ≡ true → IsTokenAt d at (string s) end → lexemes_at d next ≡ lexemes_at d end → get_or d next 32 ≡ 58
    → punctuate p (lexemes_at d at) ≡ key s ∷ punctuate fresh (lexemes_at d (next + 1))
key_here p d at end next s may is behind byte =
    ap (punctuate p) (is ∙ ap (λ ls. token (string s) ∷ ls) (lexeme_at d end next 58 behind byte (λ z. omega arith) refl)) ∙ key_token p s (lexemes_at d (next + 1)) may

behind_comma : (before : Before) (d : List ℕ) (at next : ℕ) (ts : List Token) → IsBehindComma d before at next → ((p : Place) → may_begin p ≡ true → punctuate p (lexemes_at d next) ≡ ts) → tokens_at before d at ≡ ts
behind_comma Nothing d at next ts is f = ap (λ i. punctuate fresh (lexemes_at d i)) (sym is) ∙ f fresh refl
behind_comma Value d at next ts is f = is ∙ f after_comma refl
behind_comma Comma d at next ts is f = ap (λ i. punctuate after_comma (lexemes_at d i)) (sym is) ∙ f after_comma refl

pub same_tokens : (before : Before) (d : List ℕ) (at next : ℕ) → lexemes_at d next ≡ lexemes_at d at → tokens_at before d at ≡ tokens_at before d next
same_tokens Nothing d at next e = ap (punctuate fresh) (sym e)
same_tokens Value d at next e = ap (punctuate after_value) (sym e)
same_tokens Comma d at next e = ap (punctuate after_comma) (sym e)

pub key_next : (before : Before) (d : List ℕ) (at first here end next : ℕ) (s : List ℕ) → lexemes_at d first ≡ lexemes_at d at → IsBehindComma d before first here → IsTokenAt d here (string s) end → lexemes_at d next ≡ lexemes_at d end → get_or d next 32 ≡ 58
    → read_key (tokens_at before d at) ≡ Some (Some s, punctuate fresh (lexemes_at d (next + 1)))
key_next before d at first here end next s same behind is after byte =
    ap read_key (same_tokens before d at first same ∙ behind_comma before d first here _ behind (λ p may. key_here p d here end next s may is after byte))

-- ---- what ends

ends_object : (p : Place) (ls : List Lexeme) → may_close p ≡ true → punctuate p (token end_object ∷ ls) ≡ end_object ∷ punctuate after_value ls
unfolding punctuate
ends_object p ls e = allowed (may_close p) end_object (λ n. punctuate n ls) after_value e

pub over : (before : Before) (d : List ℕ) (at : ℕ) (ts : List Token) → ends_behind before ≡ true → ((p : Place) → may_close p ≡ true → punctuate p (lexemes_at d at) ≡ ts) → tokens_at before d at ≡ ts
over Nothing d at ts e f = f fresh refl
over Value d at ts e f = f after_value refl
over Comma d at ts e f = absurd (false≢true e)

pub object_over : (before : Before) (d : List ℕ) (at next : ℕ) → ends_behind before ≡ true → lexemes_at d next ≡ lexemes_at d at → get_or d next 32 ≡ 125 → read_key (tokens_at before d at) ≡ Some (None, punctuate after_value (lexemes_at d (next + 1)))
object_over before d at next e same is =
    ap read_key (over before d at _ e (λ p may. ap (punctuate p) (lexeme_at d at next 125 same is (λ z. omega arith) refl) ∙ ends_object p (lexemes_at d (next + 1)) may))

-- ---- a comma

comma_token : (ls : List Lexeme) → punctuate after_value (comma ∷ ls) ≡ punctuate after_comma ls
unfolding punctuate
comma_token ls = refl

pub comma_next : (d : List ℕ) (at next : ℕ) → get_or d at 32 ≡ 44 → lexemes_at d next ≡ lexemes_at d (at + 1) → punctuate after_value (lexemes_at d at) ≡ punctuate after_comma (lexemes_at d next)
comma_next d at next is same =
    ap (punctuate after_value) (lexeme_at d at at 44 refl is (λ z. omega arith) refl) ∙ comma_token (lexemes_at d (at + 1)) ∙ ap (punctuate after_comma) (sym same)

-- ---- a number, a truth value, null

abbrev pub IsLeaf : Token → Type 0
IsLeaf t = (p : Place) (ls : List Lexeme) → may_begin p ≡ true → punctuate p (token t ∷ ls) ≡ t ∷ punctuate after_value ls

pub number_leaf : (s : List ℕ) → IsLeaf (number s)
unfolding punctuate
number_leaf s p ls e = allowed (may_begin p) (number s) (λ n. punctuate n ls) after_value e

pub boolean_leaf : (b : Bool) → IsLeaf (boolean b)
unfolding punctuate
boolean_leaf b p ls e = allowed (may_begin p) (boolean b) (λ n. punctuate n ls) after_value e

pub null_leaf : IsLeaf null
unfolding punctuate
null_leaf p ls e = allowed (may_begin p) null (λ n. punctuate n ls) after_value e

pub leaf_next : (before : Before) (d : List ℕ) (at first end : ℕ) (t : Token) → IsLeaf t → begins_behind before ≡ true → lexemes_at d first ≡ lexemes_at d at → IsTokenAt d first t end → tokens_at before d at ≡ t ∷ punctuate after_value (lexemes_at d end)
leaf_next before d at first end t leaf e same is = begun before d at _ e (λ p may. ap (punctuate p) (sym same ∙ is) ∙ leaf p (lexemes_at d end) may)

-- ---- an array

ends_array : (p : Place) (ls : List Lexeme) → may_close p ≡ true → punctuate p (token end_array ∷ ls) ≡ end_array ∷ punctuate after_value ls
unfolding punctuate
ends_array p ls e = allowed (may_close p) end_array (λ n. punctuate n ls) after_value e

pub array_over : (before : Before) (d : List ℕ) (at next : ℕ) → ends_behind before ≡ true → lexemes_at d next ≡ lexemes_at d at → get_or d next 32 ≡ 93 → after_end_array (tokens_at before d at) ≡ Some (punctuate after_value (lexemes_at d (next + 1)))
array_over before d at next e same is =
    ap after_end_array (over before d at _ e (λ p may. ap (punctuate p) (lexeme_at d at next 93 same is (λ z. omega arith) refl) ∙ ends_array p (lexemes_at d (next + 1)) may))

pub array_goes_on : (before : Before) (d : List ℕ) (at : ℕ) → begins_behind before ≡ true → at ≤ length d → (at < length d → is_blank (class (get_or d at 32)) ≡ false) → (get_or d at 32 ≡ 93 → ⊥) → after_end_array (tokens_at before d at) ≡ None
array_goes_on Nothing d at e within solid other_byte = no_array_end fresh d at refl within solid other_byte
array_goes_on Value d at e within solid other_byte = absurd (false≢true e)
array_goes_on Comma d at e within solid other_byte = no_array_end after_comma d at refl within solid other_byte

pub not_null : (before : Before) (d : List ℕ) (at : ℕ) → begins_behind before ≡ true → at ≤ length d → (at < length d → is_blank (class (get_or d at 32)) ≡ false) → (get_or d at 32 ≡ 110 → ⊥) → IsNoNull (tokens_at before d at)
not_null Nothing d at e within solid other_byte = no_null fresh d at refl within solid other_byte
not_null Value d at e within solid other_byte = absurd (false≢true e)
not_null Comma d at e within solid other_byte = no_null after_comma d at refl within solid other_byte

pub behind_value : (before : Before) (d : List ℕ) (at next : ℕ) → begins_behind before ≡ false → lexemes_at d next ≡ lexemes_at d at → get_or d next 32 ≡ 44 → tokens_at before d at ≡ punctuate after_comma (lexemes_at d (next + 1))
behind_value Nothing d at next e same is = absurd (true≢false e)
behind_value Value d at next e same is = ap (punctuate after_value) (sym same) ∙ comma_next d next (next + 1) is refl
behind_value Comma d at next e same is = absurd (true≢false e)

-- ---- the end

nothing_left : (p : Place) → may_close p ≡ true → punctuate p [] ≡ []
unfolding punctuate
nothing_left fresh e = refl
nothing_left after_value e = refl
nothing_left after_comma e = absurd (false≢true e)
nothing_left after_key e = absurd (false≢true e)

pub all_over : (before : Before) (d : List ℕ) (at next : ℕ) → ends_behind before ≡ true → lexemes_at d next ≡ lexemes_at d at → length d ≤ next → tokens_at before d at ≡ []
all_over before d at next e same past = over before d at [] e (λ p may. ap (punctuate p) (sym same ∙ no_lexemes d next past) ∙ nothing_left p may)
