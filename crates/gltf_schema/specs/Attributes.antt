-- What the attributes of a primitive have for a key.
use Rattle.std.specs.Prelude.{ℕ, List, Option, None, if◌then◌else◌}
use Rattle.std.specs.BTreeMap.{is_at}
use Rattle.std.specs.Map.{lookup}
use Rattle.std.specs.Option.{option_or}
use Rattle.serde_json.specs.Data.{Members, no_members, member}
use Rattle.gltf_base.specs.Keys.{Key, key_cmp}
use Rattle.gltf_base.specs.Names.{key_named}
use Rattle.gltf_schema.specs.Read.{small_number}

-- the index under a key, if there is one
abbrev pub index_at : Key → List (Key × ℕ) → Option ℕ
index_at key es = lookup (is_at (key_cmp key)) es

-- the index at the last of the names that mean a key; none where no name does
abbrev pub last_index : Key → Members → Option ℕ
last_index key no_members = None
last_index key (member n d ms) = option_or (last_index key ms) (if is_at (key_cmp key) (key_named n) then small_number d else None)
