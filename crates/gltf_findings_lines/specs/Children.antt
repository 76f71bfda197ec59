-- The children of a value on a tape: what the calls for them leave. Only the crate's private clauses cite it.
use Rattle.std.specs.Prelude.{◌≡◌, ◌<◌, ⊤, ℕ, ◌+◌, List, [], ◌∷◌, length, drop, map, Option, Some, None, MatchOption, String, string_bytes}
use Rattle.std.specs.List.{AllZip}
use Rattle.std.specs.declared.alloc.Global.{Global}
use Rattle.std.specs.Ordering.{nat_cmp}
use Rattle.std.specs.BTreeMap.{BTreeMap, get, get_by_text}
use Rattle.json.specs.Token.{Token}
use Rattle.json.specs.Json.{Json, array, object, Items, no_items, item, Members, no_members, member}
use Rattle.json.specs.Find.{BeginsWith, InItems, InMembers}
use Rattle.json.specs.Tape.{node_token, Linked}
use Rattle.json.specs.Tree.{json_tokens}
use Rattle.json.specs.declared.tape.Node.{Node}
use Rattle.gltf_findings_lines.specs.Places.{Child, child_at, member_at, place_of}
use Rattle.gltf_findings_lines.specs.declared.children.Children.{Children}
use Rattle.gltf_findings_lines.specs.declared.children.Children.TheVariants.{Items as TheItems, Members as TheMembers, None as NoChildren}

abbrev pub tokens_of : List Node → List Token
tokens_of nodes = map node_token nodes

abbrev pub AreNodes : List Node → Type 0
AreNodes nodes = Linked (tokens_of nodes) 0 nodes

-- a value begins at a node
abbrev pub IsAt : List Node → ℕ → Json → Type 0
IsAt nodes at j = BeginsWith (drop at (tokens_of nodes)) j

-- the number of a child, and that it begins there
abbrev pub IsChild : List Node → Option ℕ → Option Child → Type 0
IsChild nodes found due = MatchOption found (due ≡ None) (λ k. (v : Json) × (due ≡ Some (k, v)) × IsAt nodes k v)

-- the item that is next, and the number behind it
abbrev pub IsItemEnd : List Node → ℕ → Items → Option ℕ → Type 0
IsItemEnd nodes at js end = MatchOption end (js ≡ no_items) (λ e. (j : Json) × (rest : Items) × (js ≡ item j rest) × IsAt nodes at j × (e ≡ at + length (json_tokens j)) × InItems (drop e (tokens_of nodes)) rest)

-- the member that is next by its name, and the number behind it
abbrev pub IsMemberEnd : List Node → ℕ → Members → Option (List ℕ × ℕ) → Type 0
IsMemberEnd nodes at ms end = MatchOption end (ms ≡ no_members) (λ e. (j : Json) × (rest : Members) × (ms ≡ member e.0 j rest) × IsAt nodes (at + 1) j × (e.1 ≡ at + 1 + length (json_tokens j)) × InMembers (drop e.1 (tokens_of nodes)) rest)

-- each item begins at its number
abbrev pub AreItems : List Node → ℕ → Items → List ℕ → Type 0
AreItems nodes n no_items [] = ⊤
AreItems nodes n no_items (s ∷ ss) = ⊥
AreItems nodes n (item j js) [] = ⊥
AreItems nodes n (item j js) (s ∷ ss) = (s ≡ n) × IsAt nodes n j × AreItems nodes (n + length (json_tokens j)) js ss

abbrev pub Names : Type 0
Names = BTreeMap (String Global) ℕ

-- each name has the last member of that name
abbrev pub AreMembers : List Node → ℕ → Members → Names → Type 0
AreMembers nodes n ms names = (part : List ℕ) → IsChild nodes (get_by_text names part) (member_at n part ms)

abbrev pub AreChildren : List Node → ℕ → Json → Children → Type 0
AreChildren nodes at j (TheItems v) = (js : Items) × (j ≡ array js) × AreItems nodes (at + 1) js v.items
AreChildren nodes at j (TheMembers m) = (ms : Members) × (j ≡ object ms) × AreMembers nodes (at + 1) ms m
AreChildren nodes at j NoChildren = (part : List ℕ) → child_at at part j ≡ None

-- the children of the value at a node
abbrev pub AreChildrenAt : List Node → ℕ → Children → Type 0
AreChildrenAt nodes at c = (j : Json) → IsAt nodes at j → AreChildren nodes at j c

-- the children that are known are those of their nodes
abbrev pub AreKnown : List Node → BTreeMap ℕ Children → Type 0
AreKnown nodes known = (at : ℕ) (c : Children) → get nat_cmp known at ≡ Some c → AreChildrenAt nodes at c

-- the number of the node to which a pointer leads in the whole value
abbrev pub IsPlace : List Node → Json → List ℕ → ℕ → Type 0
IsPlace nodes j pointer n = (n ≡ place_of pointer j) × (n < length nodes)

abbrev pub ArePlaces : List Node → Json → List (String Global) → List ℕ → Type 0
ArePlaces nodes j pointers places = AllZip (λ p n. IsPlace nodes j (string_bytes p) n) pointers places
