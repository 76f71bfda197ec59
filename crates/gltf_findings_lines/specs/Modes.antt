-- The modes in which `lex` goes over the bytes of a text, without the lexemes that it reads. The contracts inside this crate speak of them.
use Rattle.std.specs.Prelude.{◌≡◌, ℕ, ◌+◌, ◌<◌, ◌≤◌, List, length, take, get_or, Bool, true, false, fold}
use Rattle.json.specs.Lex.{Mode, Class, quote, backslash, operator, space, other, class, operator_lexeme, between, in_word, in_string, in_escape}
use Rattle.gltf_findings_lines.specs.Positions.{is_token, tokens_begun, newlines, behind_newline}
use Rattle.gltf_findings_lines.specs.declared.starts.Cursor.{Cursor}

-- the mode behind a byte of this class
abbrev pub mode_behind : Mode → Class → Mode
mode_behind between quote = in_string
mode_behind between backslash = in_word
mode_behind between operator = between
mode_behind between space = between
mode_behind between other = in_word
mode_behind in_word quote = in_word
mode_behind in_word backslash = in_word
mode_behind in_word operator = between
mode_behind in_word space = between
mode_behind in_word other = in_word
mode_behind in_string quote = between
mode_behind in_string backslash = in_escape
mode_behind in_string operator = in_string
mode_behind in_string space = in_string
mode_behind in_string other = in_string
mode_behind in_escape c = in_string

-- whether the byte x of this class begins a token
abbrev pub token_begins : Mode → Class → ℕ → Bool
token_begins between quote x = true
token_begins between backslash x = true
token_begins between operator x = is_token (operator_lexeme x)
token_begins between space x = false
token_begins between other x = true
token_begins in_word quote x = false
token_begins in_word backslash x = false
token_begins in_word operator x = is_token (operator_lexeme x)
token_begins in_word space x = false
token_begins in_word other x = false
token_begins in_string c x = false
token_begins in_escape c x = false

-- the mode behind the bytes before an offset
abbrev pub mode_at : List ℕ → ℕ → Mode
mode_at text offset = fold (λ m x. mode_behind m (class x)) between (take offset text)

-- how many tokens begin before an offset
abbrev pub begun_at : List ℕ → ℕ → ℕ
begun_at text offset = tokens_begun (take offset text)

-- the cursor stands in the text, and knows its line and where that begins
pub record IsCursor (text : List ℕ) (c : Cursor) : Type 0 where
  pub within : c.offset ≤ length text
  pub line : c.line ≡ newlines (take c.offset text) + 1
  pub column : c.offset ≡ c.line_start + behind_newline (take c.offset text)

-- The byte at an offset is read as between two lexemes. So it is at an operator or a space that ends a word, and where no byte is left.
pub record RestsAt (text : List ℕ) (offset : ℕ) : Type 0 where
  pub begins : offset < length text → token_begins (mode_at text offset) (class (get_or text offset 0)) (get_or text offset 0) ≡ token_begins between (class (get_or text offset 0)) (get_or text offset 0)
  pub behind : offset < length text → mode_behind (mode_at text offset) (class (get_or text offset 0)) ≡ mode_behind between (class (get_or text offset 0))
