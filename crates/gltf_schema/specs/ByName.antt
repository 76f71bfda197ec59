-- The rows of an object in the byte order of their names, as a JSON value holds its members and as
-- they are printed. The table has them in another order.
use Rattle.std.specs.Prelude.{ℕ, List, Option, Some, None, option_map, if◌then◌else◌}
use Rattle.std.specs.Ordering.{nat_cmp, match_ordering}
use Rattle.std.specs.Cmp.Lexicographic.{slice_cmp}
use Rattle.serde_json.specs.Data.{Data, Members, no_members, member}
use Rattle.gltf_schema.specs.Kind.{Mark, Kind, Rows, no_rows, row}
use Rattle.gltf_schema.specs.Maybe.{◌>>=◌}
use Rattle.gltf_schema.specs.Tree.{Tree, Trees, end, with_tree}
use Rattle.gltf_schema.specs.Write.{write, leaves_out, written}

-- a row before the first one with a greater name
abbrev pub insert_row : List ℕ → Mark → Kind → Rows → Rows
insert_row n mark kind no_rows = row n mark kind no_rows
insert_row n mark kind (row l m k rows) =
    match_ordering (slice_cmp nat_cmp n l) (row n mark kind (row l m k rows)) (row n mark kind (row l m k rows)) (row l m k (insert_row n mark kind rows))

abbrev pub by_name : Rows → Rows
by_name no_rows = no_rows
by_name (row n mark kind rows) = insert_row n mark kind (by_name rows)

-- a row's tree in the place that the row has among rows in order
abbrev pub insert_tree : List ℕ → Tree → Rows → Trees → Trees
insert_tree n t no_rows ts = with_tree t ts
insert_tree n t (row l m k rows) end = with_tree t end
insert_tree n t (row l m k rows) (with_tree u ts) =
    match_ordering (slice_cmp nat_cmp n l) (with_tree t (with_tree u ts)) (with_tree t (with_tree u ts)) (with_tree u (insert_tree n t rows ts))

-- the trees of rows, in the order of the rows' names
abbrev pub trees_by_name : Rows → Trees → Trees
trees_by_name no_rows ts = ts
trees_by_name (row n mark kind rows) end = end
trees_by_name (row n mark kind rows) (with_tree t ts) = insert_tree n t (by_name rows) (trees_by_name rows ts)

-- what a row writes: nothing where its mark leaves it out
abbrev pub row_data : Mark → Kind → Tree → Option (Option Data)
row_data mark kind t = if leaves_out mark t then Some None else option_map Some (written mark (write kind) t)

-- the members that rows write, in the rows' order
abbrev pub row_members : Rows → Trees → Option Members
row_members no_rows end = Some no_members
row_members (row n mark kind rows) (with_tree t ts) =
    if leaves_out mark t then row_members rows ts else (written mark (write kind) t >>= λ d. option_map (member n d) (row_members rows ts))
row_members _ _ = None
