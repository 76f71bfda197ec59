-- The span, the view and the buffer of an accessor are the only ones.
use Rattle.std.proofs.Common.{◌≡◌, ℕ, ◌<◌, List, length, get_or, Some, sym, ap, ◌∙◌, subst}
use Rattle.std.specs.Prelude.{slice_get}
use Rattle.std.proofs.lemmas.Option.{slice_get-get_or}
use Rattle.gltf_base.specs.Indexes.{index_number}
use Rattle.gltf_base.specs.declared.validation.Checked.{Checked}
use Rattle.gltf_base.specs.declared.validation.Checked.TheVariants.{Valid, Invalid}
use Rattle.gltf_base.specs.Checked.{IsValidAnd}
use Rattle.gltf_base.specs.declared.accessor.ComponentType.{ComponentType}
use Rattle.gltf_base.specs.declared.accessor.AccessorType.{AccessorType}
use Rattle.gltf_parts.specs.declared.accessor.Accessor.{Accessor}
use Rattle.gltf_parts.specs.declared.buffer.View.{View}
use Rattle.gltf_parts.specs.declared.buffer.Buffer.{Buffer}
use Rattle.gltf_layout.specs.declared.span.AccessorLayout.{AccessorLayout}
use Rattle.gltf_layout.specs.declared.span.Span.{Span}
use Rattle.gltf_layout.specs.Fits.{Fits, span_of}
use Rattle.gltf_load.specs.Spans.{AreNamed, LieIn, IsAccessorLayout, view_layout, view_number}

-- what was looked up
found : {X : Type 0} (xs : List X) (i n : ℕ) (x : X) → i ≡ n → i < length xs → ((d : X) → x ≡ get_or xs i d) → slice_get xs n ≡ Some x
found xs i n x same h at = ap (λ k. slice_get xs k) (sym same) ∙ slice_get-get_or xs i x h ∙ ap Some (sym (at x))

pub named : (views : List View) (buffers : List Buffer) (a : Accessor) (n : ℕ) (v : View) (b : Buffer) (i j : ℕ) → view_number a ≡ Some n → i ≡ n → (i < length views) × ((d : View) → v ≡ get_or views i d) → j ≡ index_number v.buffer → (j < length buffers) × ((d : Buffer) → b ≡ get_or buffers j d) → AreNamed views buffers a v b
named views buffers a n v b i j is same_i at_i same_j at_j = record {
  number = n;
  is_number = is;
  view = found views i n v same_i at_i.0 at_i.1;
  buffer = found buffers j (index_number v.buffer) b same_j at_j.0 at_j.1;
}

same_choice : {X Y : Type 0} (f : X → Y) (y z : Y) (c : Checked X) → IsValidAnd c (λ x. y ≡ f x) → IsValidAnd c (λ x. z ≡ f x) → y ≡ z
same_choice f y z (Valid x) h k = h ∙ sym k
same_choice f y z Invalid h k = absurd h

abbrev layout_of : ℕ → ComponentType → AccessorType → ℕ → AccessorLayout
layout_of o c t n = record { byte_offset = o; component_type = c; type_ = t; count = n }

same_layout : (a : Accessor) (l m : AccessorLayout) → IsAccessorLayout a l → IsAccessorLayout a m → l ≡ m
same_layout a l m h k =
    let byte_offset : l.byte_offset ≡ m.byte_offset = h.byte_offset ∙ sym k.byte_offset in
    let component_type : l.component_type ≡ m.component_type = same_choice (λ c. c.0) l.component_type m.component_type a.component_type h.component_type k.component_type in
    let type_ : l.type_ ≡ m.type_ = same_choice (λ t. t) l.type_ m.type_ a.type_ h.type_ k.type_ in
    let count : l.count ≡ m.count = h.count ∙ sym k.count in
    ap (λ o. layout_of o l.component_type l.type_ l.count) byte_offset ∙ ap (λ c. layout_of m.byte_offset c l.type_ l.count) component_type ∙ ap (λ t. layout_of m.byte_offset m.component_type t l.count) type_ ∙ ap (λ n. layout_of m.byte_offset m.component_type m.type_ n) count

same_view : (views : List View) (buffers : List Buffer) (a : Accessor) (v w : View) (b c : Buffer) → AreNamed views buffers a v b → AreNamed views buffers a w c → v ≡ w
same_view views buffers a v w b c h k =
    let both : Some h.number ≡ Some k.number = sym h.is_number ∙ k.is_number in
    let number : h.number ≡ k.number = cc in
    let here : slice_get views k.number ≡ Some v = subst (λ n. slice_get views n ≡ Some v) number h.view in
    let same : Some v ≡ Some w = sym here ∙ k.view in
    cc

pub same_buffer : (views : List View) (buffers : List Buffer) (a : Accessor) (v w : View) (b c : Buffer) → AreNamed views buffers a v b → AreNamed views buffers a w c → b ≡ c
same_buffer views buffers a v w b c h k =
    let here : slice_get buffers (index_number w.buffer) ≡ Some b = subst (λ x. slice_get buffers (index_number x.buffer) ≡ Some b) (same_view views buffers a v w b c h k) h.buffer in
    let same : Some b ≡ Some c = sym here ∙ k.buffer in
    cc

-- the view, the buffer and the layout that a span is of
pub same_fits : (views : List View) (buffers : List Buffer) (a : Accessor) (s : Span) (v : View) (b : Buffer) (l : AccessorLayout) → AreNamed views buffers a v b → IsAccessorLayout a l → LieIn views buffers a s → Fits l (view_layout v) b.byte_length.0 × (span_of l (view_layout v) ≡ s)
same_fits views buffers a s v b l named layout h =
    let view = same_view views buffers a h.0 v h.1 b h.3 named in
    let buffer = same_buffer views buffers a h.0 v h.1 b h.3 named in
    let same = same_layout a h.2 l h.4 layout in
    let here : Fits l (view_layout h.0) h.1.byte_length.0 = subst (λ x. Fits x (view_layout h.0) h.1.byte_length.0) same h.5 in
    let there : Fits l (view_layout v) h.1.byte_length.0 = subst (λ x. Fits l (view_layout x) h.1.byte_length.0) view here in
    let span : s ≡ span_of l (view_layout v) = h.6 ∙ ap (λ x. span_of x (view_layout h.0)) same ∙ ap (λ x. span_of l (view_layout x)) view in
    (subst (λ x. Fits l (view_layout v) x.byte_length.0) buffer there, sym span)
