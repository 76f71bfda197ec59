-- Rows written one after another, each putting its member in.
-- The three names stay folded, which keeps an object's chain of rows from being computed.
use Rattle.std.specs.Prelude.{ℕ, List, Bool, Option}
use Rattle.serde_json.specs.Data.{Members}
use Rattle.gltf_schema.specs.Tree.{Tree, Trees}
use Rattle.gltf_schema.specs.Kind.{Mark, Kind, Rows}
use Rattle.gltf_schema.specs.Write.{write, write_member, write_rows}
use Rattle.gltf_schema.specs.Invalid.{any_holds_invalid}

-- the members with a row's
unfoldable pub put_member : List ℕ → Mark → Kind → Tree → Members → Option Members
put_member n mark kind t ms = write_member n mark (write kind) t ms

-- the members with each row's
unfoldable pub put_rows : Rows → Trees → Members → Option Members
put_rows rows ts ms = write_rows rows ts ms

-- an item or a key in one of the trees is invalid
unfoldable pub some_invalid : Trees → Bool
some_invalid ts = any_holds_invalid ts
