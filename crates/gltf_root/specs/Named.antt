-- Members of objects by the names of their rows, and ways down through such members.
use Rattle.std.specs.Prelude.{ℕ, zero, suc, List, [], ◌∷◌, cond, map, bytes_eq}
use Rattle.gltf_base.specs.Steps.{Step, field}
use Rattle.gltf_schema.specs.Tree.{Tree, absent, object, Trees, end, with_tree, tree_at, members_in}
use Rattle.gltf_schema.specs.Kind.{Rows, no_rows, row}
use Rattle.gltf_schema.specs.Defaults.{defaults}
use Rattle.gltf_schema.specs.Fields.{closed_object}

-- the number of the row that has a name; past the last row where none has it
abbrev pub row_named : List ℕ → Rows → ℕ
row_named name no_rows = 0
row_named name (row n mark kind rows) = cond (bytes_eq n name) 0 (suc (row_named name rows))

-- the trees, with another one at a number
abbrev pub put_at : ℕ → Tree → Trees → Trees
put_at n t end = end
put_at zero t (with_tree u ts) = with_tree t ts
put_at (suc n) t (with_tree u ts) = with_tree u (put_at n t ts)

-- the member of a name, among those of an object of these rows
abbrev pub member_named : List ℕ → Rows → Trees → Tree
member_named name rows ts = tree_at (row_named name rows) ts

-- the members with another one of a name
abbrev pub put_named : List ℕ → Rows → Tree → Trees → Trees
put_named name rows t ts = put_at (row_named name rows) t ts

-- an object of these rows, with another member of a name
abbrev pub with_member : List ℕ → Rows → Tree → Tree → Tree
with_member name rows t (object ts others) = object (put_named name rows t ts) others
with_member name rows t other = other

-- what is there; where nothing is, an object of these rows with each member left out
abbrev pub or_made : Rows → Tree → Tree
or_made rows absent = closed_object (defaults rows)
or_made rows t = t

-- the names of members on the way down from an object, each beside the rows of the object that has
-- it
abbrev pub Way : Type 0
Way = List (List ℕ × Rows)

-- the steps of a way
abbrev pub way_steps : Way → List Step
way_steps way = map (λ m. field m.0) way

-- what a way leads to; absent where an object on it is missing
abbrev pub reached : Way → Tree → Tree
reached [] t = t
reached (m ∷ way) t = reached way (member_named m.0 m.1 (members_in t))

-- a tree with another one where a way leads to; the objects that are missing on it are made
abbrev pub with_reached : Way → Tree → Tree → Tree
with_reached [] new t = new
with_reached (m ∷ way) new t =
    with_member m.0 m.1 (with_reached way new (member_named m.0 m.1 (members_in t))) (or_made m.1 t)
