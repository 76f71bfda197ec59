-- Rows read one after another, each taking its member out.
use Rattle.std.specs.Prelude.{ℕ, List, Bool, Option, Some, option_map, if◌then◌else◌}
use Rattle.std.specs.Str.{bytes_eq}
use Rattle.serde_json.specs.Data.{Members, no_members, member}
use Rattle.serde_json.specs.Find.{get_member}
use Rattle.gltf_schema.specs.Maybe.{◌>>=◌}
use Rattle.gltf_schema.specs.Tree.{Tree, Trees, end, with_tree}
use Rattle.gltf_schema.specs.Kind.{Mark, Kind, Rows, no_rows, row}
use Rattle.gltf_schema.specs.Read.{read, read_member, left}

abbrev pub without : List ℕ → Members → Members
without n no_members = no_members
without n (member m d ms) = if bytes_eq n m then without n ms else member m d (without n ms)

-- the tree of a row's member, and the members left
unfoldable pub take_member : List ℕ → Mark → Kind → Members → Option (Tree × Members)
take_member n mark kind ms = option_map (λ t. (t, without n ms)) (read_member mark (read kind) (get_member n ms))

unfoldable pub take_rows : Rows → Members → Option (Trees × Members)
take_rows no_rows ms = Some (end, ms)
take_rows (row n mark kind rows) ms = take_member n mark kind ms >>= λ x. option_map (λ r. (with_tree x.0 r.0, r.1)) (take_rows rows x.1)

unfoldable pub take_all : Rows → Bool → Members → Option (Trees × Members)
take_all rows keeps ms = option_map (λ r. (r.0, left keeps r.1)) (take_rows rows ms)
