-- Where the elements of a document's accessor lie (glTF 2.0, sections 5.1 and 5.11).
use Rattle.std.specs.Prelude.{◌≡◌, ℕ, ◌≤◌, List, length, slice_get, Option, Some, None, IsSome, option_map}
use Rattle.gltf_base.specs.declared.validation.USize64.{USize64}
use Rattle.gltf_base.specs.Indexes.{index_number}
use Rattle.gltf_base.specs.declared.validation.Checked.TheVariants.{Invalid}
use Rattle.gltf_base.specs.Checked.{IsValidAnd, IsValid}
use Rattle.gltf_parts.specs.declared.accessor.Accessor.{Accessor}
use Rattle.gltf_parts.specs.declared.buffer.View.{View}
use Rattle.gltf_parts.specs.declared.buffer.Buffer.{Buffer}
use Rattle.gltf_layout.specs.declared.view.ViewLayout.{ViewLayout}
use Rattle.gltf_layout.specs.declared.span.AccessorLayout.{AccessorLayout}
use Rattle.gltf_layout.specs.declared.span.Span.{Span}
use Rattle.gltf_layout.specs.Fits.{Fits, span_of, IsFirstMisfit}
use Rattle.gltf_load.specs.declared.fault.LayoutFault.{LayoutFault}
use Rattle.gltf_load.specs.declared.fault.LayoutFault.TheVariants.{NoSuchView, NoSuchBuffer, InvalidComponentType, InvalidType, Misfit}

-- sections 5.1.2 and 5.11.2: an offset that isn't there is 0
abbrev pub offset_or_0 : Option USize64 → ℕ
offset_or_0 None = 0
offset_or_0 (Some n) = n.0

-- what an accessor says of its elements, if its choices are valid
pub record IsAccessorLayout (a : Accessor) (l : AccessorLayout) : Type 0 where
  pub byte_offset : l.byte_offset ≡ offset_or_0 a.byte_offset
  pub component_type : IsValidAnd a.component_type (λ c. l.component_type ≡ c.0)
  pub type_ : IsValidAnd a.type_ (λ t. l.type_ ≡ t)
  pub count : l.count ≡ a.count.0

-- what a view says of bytes
abbrev pub view_layout : View → ViewLayout
view_layout v = record { byte_offset = offset_or_0 v.byte_offset; byte_length = v.byte_length.0; byte_stride = option_map (λ s. s.0) v.byte_stride }

-- the number of an accessor's view
abbrev pub view_number : Accessor → Option ℕ
view_number a = option_map index_number a.buffer_view

-- the view that an accessor names, and the buffer that this view names
pub record AreNamed (views : List View) (buffers : List Buffer) (a : Accessor) (v : View) (b : Buffer) : Type 0 where
  pub number : ℕ
  pub is_number : view_number a ≡ Some number
  pub view : slice_get views number ≡ Some v
  pub buffer : slice_get buffers (index_number v.buffer) ≡ Some b

-- the elements lie in the buffer
abbrev pub LieIn : List View → List Buffer → Accessor → Span → Type 0
LieIn views buffers a s = (v : View) × (b : Buffer) × (l : AccessorLayout) × AreNamed views buffers a v b × IsAccessorLayout a l × Fits l (view_layout v) b.byte_length.0 × (s ≡ span_of l (view_layout v))

-- section 5.1.1: without a view the elements are zeros
abbrev pub IsPlace : List View → List Buffer → Accessor → Option Span → Type 0
IsPlace views buffers a None = a.buffer_view ≡ None
IsPlace views buffers a (Some s) = LieIn views buffers a s

-- sections 5.1.3 and 5.1.6: both choices of an accessor are values of the format
abbrev pub HasValidChoices : Accessor → Type 0
HasValidChoices a = IsValid a.component_type × IsValid a.type_

-- what is wrong first with an accessor that names a view: its component type, its type, the view, the buffer, the fit
abbrev pub IsLayoutFault : List View → List Buffer → Accessor → LayoutFault → Type 0
IsLayoutFault views buffers a InvalidComponentType = IsSome a.buffer_view × (a.component_type ≡ Invalid)
IsLayoutFault views buffers a InvalidType = IsSome a.buffer_view × IsValid a.component_type × (a.type_ ≡ Invalid)
IsLayoutFault views buffers a (NoSuchView n) = HasValidChoices a × (view_number a ≡ Some n) × (length views ≤ n)
IsLayoutFault views buffers a (NoSuchBuffer n) = HasValidChoices a × (i : ℕ) × (v : View) × (view_number a ≡ Some i) × (slice_get views i ≡ Some v) × (n ≡ index_number v.buffer) × (length buffers ≤ n)
IsLayoutFault views buffers a (Misfit m) = (v : View) × (b : Buffer) × (l : AccessorLayout) × AreNamed views buffers a v b × IsAccessorLayout a l × IsFirstMisfit l (view_layout v) b.byte_length.0 m

-- the first choice that is invalid
abbrev pub IsChoiceFault : Accessor → LayoutFault → Type 0
IsChoiceFault a InvalidComponentType = a.component_type ≡ Invalid
IsChoiceFault a InvalidType = IsValid a.component_type × (a.type_ ≡ Invalid)
IsChoiceFault a (NoSuchView n) = ⊥
IsChoiceFault a (NoSuchBuffer n) = ⊥
IsChoiceFault a (Misfit m) = ⊥
