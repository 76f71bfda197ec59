-- What JSON the table wants at a place.
use Rattle.std.specs.Prelude.{ℕ, List, [], ◌∷◌, Option, Some, None, ◌++◌, codes, if◌then◌else◌}
use Rattle.std.specs.Fmt.{decimal}
use Rattle.std.specs.Str.{bytes_eq}
use Rattle.gltf_base.specs.Steps.{Step, field, item}
use Rattle.gltf_base.specs.declared.choice.Form.{Form}
use Rattle.gltf_base.specs.declared.choice.Form.TheVariants as forms
use Rattle.gltf_schema.specs.Maybe.{◌>>=◌}
use Rattle.gltf_schema.specs.Kind.{Kind, Rows, no_rows, row}
use Rattle.gltf_schema.specs.Kind as kinds
use Rattle.gltf_schema.specs.declared.outline.Shape.{Shape}
use Rattle.gltf_schema.specs.declared.outline.Shape.TheVariants as shapes
use Rattle.gltf_root.specs.declared.wanted.Wanted.{Wanted}
use Rattle.gltf_root.specs.declared.wanted.Wanted.TheVariants.{Whole32, Whole64, Number, Numbers, Text, Bool, Any, List as AList, Object}

-- the kind of the row of this name
abbrev pub row_kind : List ℕ → Rows → Option Kind
row_kind n no_rows = None
row_kind n (row m mark kind rows) = if bytes_eq m n then Some kind else row_kind n rows

-- the kind of what a step leads to in a value of a kind
abbrev pub kind_within : Kind → Step → Option Kind
kind_within (kinds.ListOf kind) (item i) = Some kind
kind_within (kinds.Numbers n) (item i) = Some kinds.Number
kind_within (kinds.Attributes named) (field n) = Some (kinds.IndexInto named)
kind_within (kinds.Object rule rows keeps) (field n) = row_kind n rows
kind_within _ _ = None

-- the kind of what is at the end of the steps
abbrev pub kind_at : Kind → List Step → Option Kind
kind_at kind [] = Some kind
kind_at kind (step ∷ steps) = kind_within kind step >>= λ k. kind_at k steps

-- a choice is read from what its spellings are
abbrev pub spelling_wanted : Form → Wanted
spelling_wanted forms.Number = Whole64
spelling_wanted forms.Name = Text

-- the JSON that a kind is read from
abbrev pub wanted_of : Kind → Wanted
wanted_of kinds.U64 = Whole64
wanted_of kinds.Stride = Whole64
wanted_of kinds.Number = Number
wanted_of (kinds.Numbers n) = Numbers n
wanted_of kinds.Text = Text
wanted_of kinds.Truth = Bool
wanted_of kinds.Any = Any
wanted_of (kinds.Choice form spellings) = spelling_wanted form
wanted_of (kinds.Attributes named) = Object
wanted_of (kinds.ListOf kind) = AList
wanted_of (kinds.Object rule rows keeps) = Object
-- indexes, and plain numbers of 32 bits
wanted_of _ = Whole32

-- in a reader's words
abbrev pub wanted_text : Wanted → List ℕ
wanted_text Whole32 = codes "a whole number below 2^32"
wanted_text Whole64 = codes "a whole number below 2^64"
wanted_text Number = codes "a number"
wanted_text (Numbers n) = decimal n ++ codes " numbers"
wanted_text Text = codes "a text"
wanted_text Bool = codes "true or false"
wanted_text Any = codes "any JSON"
wanted_text AList = codes "a list"
wanted_text Object = codes "an object"

-- what a shape wants, without what is inside
abbrev pub shape_wanted : Shape → Wanted
shape_wanted shapes.Whole32 = Whole32
shape_wanted shapes.Whole64 = Whole64
shape_wanted shapes.Number = Number
shape_wanted (shapes.Numbers n i) = Numbers n
shape_wanted shapes.Text = Text
shape_wanted shapes.Truth = Bool
shape_wanted shapes.Any = Any
shape_wanted (shapes.Indexes i) = Object
shape_wanted (shapes.List i) = AList
shape_wanted (shapes.Object members keeps) = Object
