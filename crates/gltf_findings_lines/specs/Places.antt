-- The place in a JSON text to which a JSON pointer (RFC 6901) leads: how many of the text's tokens stand before it.
use Rattle.std.specs.Prelude.{ℕ, zero, suc, ◌+◌, List, [], ◌∷◌, length, drop, ◌==◌, bytes_eq, if◌then◌else◌, Option, Some, None, option_and_then}
use Rattle.std.specs.List.{slice_split}
use Rattle.std.specs.Option.{option_map_or}
use Rattle.json.specs.Json.{Json, null, boolean, number, string, array, object, Items, no_items, item, Members, no_members, member}
use Rattle.json.specs.Tree.{json_tokens}
use Rattle.serde_json.specs.Find.{index_of}
use Rattle.gltf_base.specs.Pointers.{escaped}

-- the reference tokens of a pointer, each as it is written there: what stands behind each '/'
abbrev pub parts_of : List ℕ → List (List ℕ)
parts_of pointer = drop 1 (slice_split (λ c. c == 47) pointer)

-- a value, and how many tokens stand before it
abbrev pub Child : Type 0
Child = ℕ × Json

abbrev pub later_or : Option Child → Option Child → Option Child
later_or None earlier = earlier
later_or (Some c) earlier = Some c

-- the item of a number; n tokens stand before the first one
abbrev pub item_at : ℕ → ℕ → Items → Option Child
item_at n i no_items = None
item_at n zero (item j js) = Some (n, j)
item_at n (suc i) (item j js) = item_at (n + length (json_tokens j)) i js

-- the last member whose name is written as the part; n tokens stand before the first member, and its name is one
abbrev pub member_at : ℕ → List ℕ → Members → Option Child
member_at n part no_members = None
member_at n part (member k j ms) = later_or (member_at (n + 1 + length (json_tokens j)) part ms) (if bytes_eq (escaped k) part then Some (n + 1, j) else None)

-- what a part leads to in a value that has n tokens before it
abbrev pub child_at : ℕ → List ℕ → Json → Option Child
child_at n part null = None
child_at n part (boolean b) = None
child_at n part (number s) = None
child_at n part (string s) = None
child_at n part (array js) = option_and_then (λ i. item_at (n + 1) i js) (index_of part)
child_at n part (object ms) = member_at (n + 1) part ms

-- how many tokens stand before the value to which parts lead, or before the last value on their way that is there
abbrev pub place_at : List (List ℕ) → ℕ → Json → ℕ
place_at [] n j = n
place_at (p ∷ ps) n j = option_map_or (λ c. place_at ps c.0 c.1) (child_at n p j) n

abbrev pub place_of : List ℕ → Json → ℕ
place_of pointer j = place_at (parts_of pointer) 0 j
