-- The extensions that a document lists as used.
use Rattle.std.specs.Prelude.{ℕ, List, Bool, false, ◌||◌, Option, Some, None, option_and_then, bytes_eq, codes}
use Rattle.serde_json.specs.Data as json
use Rattle.serde_json.specs.Data.{Data, Items}
use Rattle.serde_json.specs.Find.{get, as_array, as_str}

-- the items of the list that is the member of this name
abbrev pub items_at : List ℕ → Data → Option Items
items_at n d = option_and_then as_array (get n d)

abbrev pub is_bytes : List ℕ → Option (List ℕ) → Bool
is_bytes q None = false
is_bytes q (Some s) = bytes_eq s q

abbrev pub is_text : List ℕ → Data → Bool
is_text q d = is_bytes q (as_str d)

-- a text is among the items
abbrev pub has_text : List ℕ → Items → Bool
has_text q json.no_items = false
has_text q (json.item d ds) = is_text q d || has_text q ds

abbrev pub is_in : List ℕ → Option Items → Bool
is_in q None = false
is_in q (Some ds) = has_text q ds

-- `extensionsUsed` lists the name
abbrev pub uses : Data → List ℕ → Bool
uses d q = is_in q (items_at (codes "extensionsUsed") d)
