-- The kinds of the table as values that a program has: a node for each says what JSON it is read
-- from, and has the numbers of the nodes of what it holds.
use Rattle.std.specs.Prelude.{◌≡◌, ◌++◌, ⊤, ℕ, List, [], ◌∷◌, Some, slice_get, Result, Ok, Err}
use Rattle.gltf_base.specs.declared.choice.Form.{Form}
use Rattle.gltf_base.specs.declared.choice.Form.TheVariants as forms
use Rattle.gltf_schema.specs.Kind.{Mark, required, optional, always, unless, sometimes, or_null}
use Rattle.gltf_schema.specs.Kind.{Kind, Rows, no_rows, row}
use Rattle.gltf_schema.specs.Kind as kinds
use Rattle.gltf_schema.specs.declared.outline.Shape.{Shape}
use Rattle.gltf_schema.specs.declared.outline.Shape.TheVariants.{Whole32, Whole64, Number, Numbers, Text, Truth, Any, Indexes, List as ListOf, Object}
use Rattle.gltf_schema.specs.declared.outline.Presence.{Presence}
use Rattle.gltf_schema.specs.declared.outline.Presence.TheVariants.{Required, OrNull, Optional}
use Rattle.gltf_schema.specs.declared.outline.Member.{Member}
use Rattle.std.specs.declared.vec.Vec.{Vec}
use Rattle.std.specs.declared.alloc.Global.{Global}

-- when a member of this mark may be missing
abbrev pub presence_of : Mark → Presence
presence_of required = Required
presence_of optional = OrNull
presence_of or_null = OrNull
presence_of _ = Optional

-- a choice is read from what its spellings are
abbrev pub spelling_shape : Form → Shape
spelling_shape forms.Number = Whole64
spelling_shape forms.Name = Text

abbrev mutual
  -- the node of this number says what JSON the kind is read from, at every depth
  pub IsShapeOf : List Shape → ℕ → Kind → Type 0
  IsShapeOf nodes i kinds.U64 = slice_get nodes i ≡ Some Whole64
  IsShapeOf nodes i kinds.Stride = slice_get nodes i ≡ Some Whole64
  IsShapeOf nodes i kinds.Number = slice_get nodes i ≡ Some Number
  IsShapeOf nodes i (kinds.Numbers n) = (j : ℕ) × (slice_get nodes i ≡ Some (Numbers n j)) × (slice_get nodes j ≡ Some Number)
  IsShapeOf nodes i kinds.Text = slice_get nodes i ≡ Some Text
  IsShapeOf nodes i kinds.Truth = slice_get nodes i ≡ Some Truth
  IsShapeOf nodes i kinds.Any = slice_get nodes i ≡ Some Any
  IsShapeOf nodes i (kinds.Choice form spellings) = slice_get nodes i ≡ Some (spelling_shape form)
  IsShapeOf nodes i (kinds.Attributes named) = (j : ℕ) × (slice_get nodes i ≡ Some (Indexes j)) × (slice_get nodes j ≡ Some Whole32)
  IsShapeOf nodes i (kinds.ListOf kind) = (j : ℕ) × (slice_get nodes i ≡ Some (ListOf j)) × IsShapeOf nodes j kind
  IsShapeOf nodes i (kinds.Object rule rows keeps) = (members : Vec Member Global) × (slice_get nodes i ≡ Some (Object members keeps)) × AreMembersOf nodes members.items rows
  -- indexes, and plain numbers of 32 bits
  IsShapeOf nodes i _ = slice_get nodes i ≡ Some Whole32

  -- the members are those of the rows, in the rows' order
  pub AreMembersOf : List Shape → List Member → Rows → Type 0
  AreMembersOf nodes [] no_rows = ⊤
  AreMembersOf nodes (m ∷ ms) (row n mark kind rows) = (m.name.now ≡ n) × (m.presence ≡ presence_of mark) × IsShapeOf nodes m.value kind × AreMembersOf nodes ms rows
  AreMembersOf nodes _ _ = ⊥

-- nodes were added, and the one of the number that is returned is of this kind
abbrev pub Outlines : {E : Type 0} → List Shape → Result ℕ E → List Shape → Kind → Type 0
Outlines old (Ok i) new kind = (more : List Shape) × (new ≡ old ++ more) × IsShapeOf new i kind
Outlines old (Err e) new kind = ⊤
