-- Members of some names, and how they are read from tokens where the others are passed.
use Rattle.std.specs.Prelude.{◌≡◌, ⊤, ℕ, zero, suc, List, ◌∷◌, Bool, true, false, if◌then◌else◌, Some, length}
use Rattle.json.specs.Lex.{tokens}
use Rattle.json.specs.Token.{Token}
use Rattle.json.specs.Json as tree
use Rattle.json.specs.Json.{value, members, skip_value}
use Rattle.serde_json.specs.Data as json
use Rattle.serde_json.specs.Data.{Data, Members, put}
use Rattle.serde_json.specs.Read.{of_members, converted}
use Rattle.gltf_schema.specs.Streamed.{HasValue}

-- the members whose names satisfy P, in order
abbrev pub kept : (List ℕ → Bool) → Members → Members
kept P json.no_members = json.no_members
kept P (json.member n d ms) = if P n then json.member n d (kept P ms) else kept P ms

-- an object with those members alone; any other value stays
abbrev pub excerpt : (List ℕ → Bool) → Data → Data
excerpt P (json.object ms) = json.object (kept P ms)
excerpt P json.null = json.null
excerpt P (json.boolean b) = json.boolean b
excerpt P (json.number n) = json.number n
excerpt P (json.string s) = json.string s
excerpt P (json.array ds) = json.array ds

-- the tokens begin with the members of an object and its closing brace
abbrev pub HasMembers : ℕ → List Token → Members → List Token → Type 0
HasMembers depth ts ms rest = converted (λ js. of_members js json.no_members) (members (value depth) (length ts) ts) ≡ Some (ms, rest)

-- if the tokens begin with members, found are those of them that are kept
abbrev pub FindsKept : (List ℕ → Bool) → ℕ → List Token → Members → Type 0
FindsKept P depth ts found = (ms : Members) (rest : List Token) → HasMembers depth ts ms rest → found ≡ kept P ms

-- the value that comes next is put under a name if that is kept, and is passed if not
abbrev pub Takes : Bool → ℕ → List ℕ → List Token → List Token → Members → Members → Type 0
Takes true depth n ts rest old new = (d : Data) × HasValue depth ts d rest × (new ≡ put n d old)
Takes false depth n ts rest old new = (skip_value depth ts ≡ Some rest) × (new ≡ old)

-- ---- where the last member is that is kept

-- of the members behind the first n none is kept
abbrev pub LeavesBehind : (List ℕ → Bool) → ℕ → tree.Members → Type 0
LeavesBehind P n tree.no_members = ⊤
LeavesBehind P zero (tree.member k j js) = (P k ≡ false) × LeavesBehind P zero js
LeavesBehind P (suc n) (tree.member k j js) = LeavesBehind P n js

-- so of the members that the tokens begin with
abbrev pub LeavesTokens : (List ℕ → Bool) → ℕ → List Token → ℕ → Type 0
LeavesTokens P depth ts n = (js : tree.Members) (rest : List Token) → members (value depth) (length ts) ts ≡ Some (js, rest) → LeavesBehind P n js

-- and of those of the object that a text is
abbrev pub LeavesText : (List ℕ → Bool) → List ℕ → ℕ → Type 0
LeavesText P text n = (ts : List Token) → tokens text ≡ Token.begin_object ∷ ts → LeavesTokens P 126 ts n
