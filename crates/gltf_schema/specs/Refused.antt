-- Where the table refuses a value: the steps that lead from the value to what is refused in it.
use Rattle.std.specs.Prelude.{◌≡◌, ℕ, suc, List, [], ◌∷◌, Option, Some, None, is_none, if◌then◌else◌}
use Rattle.serde_json.specs.Data as json
use Rattle.serde_json.specs.Data.{Data, Items, Members}
use Rattle.serde_json.specs.Find.{get_member, as_array, as_object}
use Rattle.gltf_base.specs.Steps.{Step, field, item}
use Rattle.gltf_schema.specs.Maybe.{◌>>=◌}
use Rattle.gltf_schema.specs.Kind.{Kind, IndexInto, Number, Numbers, Attributes, ListOf, Object, Rows, no_rows, row}
use Rattle.gltf_schema.specs.Read.{read, read_member}

-- the first row, in the table's order, that refuses its member, by its name and kind
unfoldable pub refused_row : Rows → Members → Option (List ℕ × Kind)
refused_row no_rows ms = None
refused_row (row n mark kind rows) ms = if is_none (read_member mark (read kind) (get_member n ms)) then Some (n, kind) else refused_row rows ms

-- the first item that the kind refuses, and its number; i is the number of the first item
abbrev pub refused_item : Kind → ℕ → Items → Option (ℕ × Data)
refused_item kind i json.no_items = None
refused_item kind i (json.item d ds) = if is_none (read kind d) then Some (i, d) else refused_item kind (suc i) ds

-- the first member, in the byte order of names, whose value the kind refuses, by its name and value
abbrev pub refused_entry : Kind → Members → Option (List ℕ × Data)
refused_entry kind json.no_members = None
refused_entry kind (json.member n d ms) = if is_none (read kind d) then Some (n, d) else refused_entry kind ms

-- the steps end at a member that is missing, or lead to what is refused in it
abbrev pub IsMissingOr : List Step → (Data → Type 0) → Option Data → Type 0
IsMissingOr steps Refused None = steps ≡ []
IsMissingOr steps Refused (Some d) = Refused d

-- the steps lead to the innermost place at which the table refuses the value. In an object they go
-- through the first row that refuses its member, in attributes through the first member that is no
-- index. In an array they go through the first item that is refused. The place is a member that is missing, an array
-- of numbers that are too many or too few, or a value of another kind of JSON than is wanted
abbrev pub IsRefusedAt : List Step → Kind → Data → Type 0
IsRefusedAt [] (Object rule rows keeps) d = as_object d ≡ None
IsRefusedAt [] (Attributes named) d = as_object d ≡ None
IsRefusedAt [] (ListOf kind) d = as_array d ≡ None
IsRefusedAt [] (Numbers n) d = ((as_array d >>= refused_item Number 0) ≡ None) × (read (Numbers n) d ≡ None)
IsRefusedAt [] kind d = read kind d ≡ None
IsRefusedAt (item i ∷ steps) (ListOf kind) d = (x : Data) × ((as_array d >>= refused_item kind 0) ≡ Some (i, x)) × IsRefusedAt steps kind x
IsRefusedAt (item i ∷ steps) (Numbers n) d = (x : Data) × ((as_array d >>= refused_item Number 0) ≡ Some (i, x)) × IsRefusedAt steps Number x
IsRefusedAt (field n ∷ steps) (Attributes named) d = (x : Data) × ((as_object d >>= refused_entry (IndexInto named)) ≡ Some (n, x)) × IsRefusedAt steps (IndexInto named) x
IsRefusedAt (field n ∷ steps) (Object rule rows keeps) d = (kind : Kind) × ((as_object d >>= refused_row rows) ≡ Some (n, kind)) × IsMissingOr steps (λ x. IsRefusedAt steps kind x) (as_object d >>= get_member n)
IsRefusedAt _ _ _ = ⊥
