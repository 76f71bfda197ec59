-- Where the tokens of a JSON text begin, by line and column.
use Rattle.std.specs.Prelude.{◌≡◌, ℕ, ◌+◌, List, take, Bool, true, false, ◌==◌, if◌then◌else◌, fold, count_by}
use Rattle.json.specs.Lex.{Lexeme, token, comma, colon, between, lex}
use Rattle.gltf_findings_lines.specs.declared.position.Position.{Position}

-- a comma and a colon are no tokens
abbrev pub is_token : Lexeme → Bool
is_token (token t) = true
is_token comma = false
is_token colon = false

-- how many tokens begin in the first bytes of a text
abbrev pub tokens_begun : List ℕ → ℕ
tokens_begun bytes = count_by is_token (lex between bytes)

-- how many newlines there are
abbrev pub newlines : List ℕ → ℕ
newlines bytes = count_by (λ x. x == 10) bytes

-- how many bytes stand behind the last newline, or in all where there is none
abbrev pub behind_newline : List ℕ → ℕ
behind_newline bytes = fold (λ n x. if x == 10 then 0 else (n + 1)) 0 bytes

-- The token of this number, from 0, begins at this line and column. The byte at `offset` is its first: so many tokens begin before that byte, and one more with it.
pub record BeginsAt (text : List ℕ) (number : ℕ) (p : Position) : Type 0 where
  pub offset : ℕ
  pub before : tokens_begun (take offset text) ≡ number
  pub begins : tokens_begun (take (offset + 1) text) ≡ number + 1
  pub line : p.line ≡ newlines (take offset text) + 1
  pub column : p.column ≡ behind_newline (take offset text) + 1
