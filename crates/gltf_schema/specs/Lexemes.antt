-- What is still to come of a JSON text, from a byte of it on.
use Rattle.std.specs.Prelude.{◌≡◌, ℕ, List, Bool, true, false, drop, take, ◌∷◌, ◌-◌}
use Rattle.json.specs.Token.{Token, null}
use Rattle.json.specs.Lex.{Lexeme, token, between, lex, fresh, after_value, after_comma, punctuate}
use Rattle.gltf_schema.specs.declared.reader.Before.{Before}
use Rattle.gltf_schema.specs.declared.reader.Before.TheVariants.{Nothing, Value, Comma}

-- the lexemes from a byte on
abbrev pub lexemes_at : List ℕ → ℕ → List Lexeme
lexemes_at text at = lex between (drop at text)

-- the tokens from a byte on
abbrev pub tokens_at : Before → List ℕ → ℕ → List Token
tokens_at Nothing text at = punctuate fresh (lexemes_at text at)
tokens_at Value text at = punctuate after_value (lexemes_at text at)
tokens_at Comma text at = punctuate after_comma (lexemes_at text at)

-- the bytes from one place up to another
abbrev pub bytes_between : List ℕ → ℕ → ℕ → List ℕ
bytes_between text at end = take (end - at) (drop at text)

-- the lexeme at a byte is a token, and the next one is at another
abbrev pub IsTokenAt : List ℕ → ℕ → Token → ℕ → Type 0
IsTokenAt text at t end = lexemes_at text at ≡ token t ∷ lexemes_at text end

-- a value or a key may begin behind what stands there
abbrev pub begins_behind : Before → Bool
begins_behind Nothing = true
begins_behind Value = false
begins_behind Comma = true

-- an array or an object may end behind what stands there
abbrev pub ends_behind : Before → Bool
ends_behind Nothing = true
ends_behind Value = true
ends_behind Comma = false

-- a value or a key may begin at a place: the comma that has to stand before it was passed
abbrev pub IsBehindComma : List ℕ → Before → ℕ → ℕ → Type 0
IsBehindComma text Nothing at next = next ≡ at
IsBehindComma text Value at next = tokens_at Value text at ≡ punctuate after_comma (lexemes_at text next)
IsBehindComma text Comma at next = next ≡ at

-- no null is next
abbrev pub IsNoNull : List Token → Type 0
IsNoNull ts = (rest : List Token) → ts ≡ null ∷ rest → ⊥
