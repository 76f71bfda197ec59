-- Elements lie in their views if nothing is found of their layout.
use Rattle.std.proofs.Common.{◌≡◌, ℕ, ◌+◌, ◌-◌, ◌*◌, ◌%◌, ◌<◌, ◌≤◌, zero, suc, List, [], ◌∷◌, ◌++◌, Bool, true, false, not, ◌&&◌, ◌==◌, Option, Some, None, map, length, refl, sym, ◌∙◌, ap, subst, arith, inl, inr, ◌⊎◌, unwrap_or}
use Rattle.std.specs.Prelude.{slice_get, option_map, nat_lt, nat_le}
use Rattle.std.proofs.lemmas.Bool.{ltb-false, leb-false, eqb-true, and_parts, and_cases, not-false, both_ways}
use Rattle.std.proofs.lemmas.Option.{slice_get-map}
use Rattle.gltf_base.specs.declared.validation.USize64.{USize64}
use Rattle.gltf_base.specs.declared.validation.Checked.{Checked}
use Rattle.gltf_base.specs.declared.validation.Checked.TheVariants.{Valid, Invalid}
use Rattle.gltf_base.specs.declared.accessor.ComponentType.{ComponentType as Numeric}
use Rattle.gltf_base.specs.declared.accessor.ComponentType.TheVariants.{I8, U8, I16, U16, U32, F32}
use Rattle.gltf_base.specs.declared.accessor.AccessorType.{AccessorType}
use Rattle.gltf_base.specs.declared.accessor.AccessorType.TheVariants.{Scalar, Vec2, Vec3, Vec4, Mat2, Mat3, Mat4}
use Rattle.gltf_base.specs.Elements.{component_size}
use Rattle.gltf_base.specs.Indexes.{index_number}
use Rattle.gltf_parts.specs.declared.accessor.Accessor.{Accessor}
use Rattle.gltf_parts.specs.declared.buffer.Buffer.{Buffer}
use Rattle.gltf_parts.specs.declared.buffer.Stride.{Stride}
use Rattle.gltf_parts.specs.declared.buffer.View.{View}
use Rattle.gltf_layout.specs.Sizes.{element_size}
use Rattle.gltf_layout.specs.declared.span.AccessorLayout.{AccessorLayout}
use Rattle.gltf_layout.specs.declared.place.Location.{Location}
use Rattle.gltf_layout.specs.Stored.{Stored}
use Rattle.gltf_layout.specs.Fits.{Fits, span_of}
use Rattle.gltf_layout.specs.Places.{HasElements, LieIn, LieInNamed}
use Rattle.gltf_layout.proofs.Checked.{is_there}
use Rattle.gltf_load.specs.Documents.{stored_in, stored_accessor, stored_view, chosen}
use Rattle.gltf_load.specs.Spans.{offset_or_0, view_layout}
use Rattle.gltf_findings_codes.specs.declared.code.Code.TheVariants.{UnresolvedReference, ValueNotInList, ValueNotInRange, ValueMultipleOf, BufferViewTooLong, AccessorOffsetAlignment, AccessorTotalOffsetAlignment, AccessorSmallBytestride, AccessorTooLong}
use Rattle.gltf_findings_codes.specs.declared.name.Name.TheVariants as name
use Rattle.gltf_findings_codes.specs.declared.finding.Subject.TheVariants.{Object, Member}
use Rattle.gltf_findings_codes.specs.Found.{found, findings_from, findings_if}
use Rattle.gltf_findings_codes.specs.Formats.{offset_number}
use Rattle.gltf_findings_codes.specs.Rules.{is_invalid, is_unresolved, is_some_unresolved}
use Rattle.gltf_findings_codes.specs.Without.{are_without}
use Rattle.gltf_findings_codes.proofs.Without.{without_append, without_from}
use Rattle.gltf_findings.proofs.Unbroken.{unbroken}
use Rattle.gltf_findings_rules.specs.Accessors.{stride_or, is_small, is_behind_view, accessor_at, accessor_rules, bound_rules, sparse_rules, elements_rules, elements_of, layout_rules, component_of, type_of_elements, view_of, view_of_index, accessor_findings}
use Rattle.gltf_findings_rules.specs.Views.{view_at, view_rules, stride_rules, stride_findings, is_stride, is_for_indices, ends_behind, ends_behind_named, is_behind_buffer, view_findings}
use Rattle.gltf_findings.specs.Absent.{is_of_layout}

-- elements that are packed tightly are multiples of a component
packed : (t : AccessorType) (c : Numeric) → element_size t c % component_size c ≡ 0
packed Scalar I8 = refl
packed Scalar U8 = refl
packed Scalar I16 = refl
packed Scalar U16 = refl
packed Scalar U32 = refl
packed Scalar F32 = refl
packed Vec2 I8 = refl
packed Vec2 U8 = refl
packed Vec2 I16 = refl
packed Vec2 U16 = refl
packed Vec2 U32 = refl
packed Vec2 F32 = refl
packed Vec3 I8 = refl
packed Vec3 U8 = refl
packed Vec3 I16 = refl
packed Vec3 U16 = refl
packed Vec3 U32 = refl
packed Vec3 F32 = refl
packed Vec4 I8 = refl
packed Vec4 U8 = refl
packed Vec4 I16 = refl
packed Vec4 U16 = refl
packed Vec4 U32 = refl
packed Vec4 F32 = refl
packed Mat2 I8 = refl
packed Mat2 U8 = refl
packed Mat2 I16 = refl
packed Mat2 U16 = refl
packed Mat2 U32 = refl
packed Mat2 F32 = refl
packed Mat3 I8 = refl
packed Mat3 U8 = refl
packed Mat3 I16 = refl
packed Mat3 U16 = refl
packed Mat3 U32 = refl
packed Mat3 F32 = refl
packed Mat4 I8 = refl
packed Mat4 U8 = refl
packed Mat4 I16 = refl
packed Mat4 U16 = refl
packed Mat4 U32 = refl
packed Mat4 F32 = refl

-- a multiple of 4 is one of the size of a component
fourfold : (s : ℕ) (c : Numeric) → s % 4 ≡ 0 → s % component_size c ≡ 0
fourfold s I8 h = omega (arith, h)
fourfold s U8 h = omega (arith, h)
fourfold s I16 h = omega (arith, h)
fourfold s U16 h = omega (arith, h)
fourfold s U32 h = omega (arith, h)
fourfold s F32 h = omega (arith, h)

stride_aligned : (o : Option Stride) (t : AccessorType) (c : Numeric) → ((s : Stride) → o ≡ Some s → s.0 % 4 ≡ 0) → stride_or o (element_size t c) % component_size c ≡ 0
stride_aligned None t c h = packed t c
stride_aligned (Some s) t c h = fourfold s.0 c (h s refl)

offset_same : (o : Option USize64) → offset_number o ≡ offset_or_0 o
offset_same None = refl
offset_same (Some n) = refl

stride_same : (o : Option Stride) (size : ℕ) → stride_or o size ≡ unwrap_or (option_map (λ s. s.0) o) size
stride_same None size = refl
stride_same (Some s) size = refl

not_small : (o : Option Stride) (size : ℕ) → is_small o size ≡ false → size ≤ stride_or o size
not_small None size h = omega arith
not_small (Some s) size h = ltb-false s.0 size h

ends_within : (o : Option USize64) (size len : ℕ) → ends_behind o size len ≡ false → offset_or_0 o + size ≤ len
ends_within None size len h = omega (arith, ltb-false len size h)
ends_within (Some n) size len h = ltb-false len (n.0 + size) h

valid_choice : {X : Type 0} (x : Checked X) → is_invalid x ≡ false → (y : X) × (x ≡ Valid y)
valid_choice (Valid y) h = (y, refl)
valid_choice Invalid h = absurd (both_ways true h refl)

some_or_none : {X : Type 0} (o : Option X) → (o ≡ None) ⊎ ((x : X) × (o ≡ Some x))
some_or_none None = inl refl
some_or_none (Some x) = inr (x, refl)

is_multiple : (n k : ℕ) → not (n % k == 0) ≡ false → n % k ≡ 0
is_multiple n k h = eqb-true (n % k) 0 (not-false (n % k == 0) h)

-- the layout of an accessor with these types
abbrev layout_of : Accessor → Numeric → AccessorType → AccessorLayout
layout_of a c t = record { byte_offset = offset_or_0 a.byte_offset; component_type = c; type_ = t; count = a.count.0 }

four : (n : ℕ) (v : View) (o : Option Stride) → are_without is_of_layout (stride_findings n v o) ≡ true → (s : Stride) → o ≡ Some s → s.0 % 4 ≡ 0
four n v None h s at = absurd cc
four n v (Some x) h s at =
    let rules = stride_rules n v.byte_length.0 (is_for_indices v.target) x.0 in
    let is : not (is_stride x.0) ≡ false = unbroken is_of_layout rules 0 (not (is_stride x.0)) ValueNotInRange (Member (view_at n) name.ByteStride) refl refl h in
    let ok : (is_stride x.0 && not (x.0 % 4 == 0)) ≡ false = unbroken is_of_layout rules 1 (is_stride x.0 && not (x.0 % 4 == 0)) ValueMultipleOf (Member (view_at n) name.ByteStride) refl refl h in
    let same : x ≡ s = cc in
    let mine : x.0 % 4 ≡ 0 = elim (and_cases (is_stride x.0) (not (x.0 % 4 == 0)) ok) [
      | inl never ↦ absurd (both_ways (is_stride x.0) never (not-false (is_stride x.0) is))
      | inr there ↦ is_multiple x.0 4 there
    ] in
    subst (λ y. y.0 % 4 ≡ 0) same mine

fits : (n : ℕ) (a : Accessor) (v : View) (b : ℕ) (c : Numeric) (t : AccessorType) → 1 ≤ a.count.0 → are_without is_of_layout (found (layout_rules n a v (component_size c) (element_size t c))) ≡ true → ends_behind v.byte_offset v.byte_length.0 b ≡ false → ((s : Stride) → v.byte_stride ≡ Some s → s.0 % 4 ≡ 0) → Fits (layout_of a c t) (view_layout v) b
fits n a v b c t some h view fourfold_stride =
    let size = element_size t c in
    let rules = layout_rules n a v (component_size c) size in
    let offset = offset_number a.byte_offset in
    let start = offset_number v.byte_offset + offset_number a.byte_offset in
    let at_offset : offset % component_size c ≡ 0 = is_multiple offset (component_size c) (unbroken is_of_layout rules 0 (not (offset % component_size c == 0)) AccessorOffsetAlignment (Member (accessor_at n) name.ByteOffset) refl refl h) in
    let at_start : start % component_size c ≡ 0 = is_multiple start (component_size c) (unbroken is_of_layout rules 1 (not (start % component_size c == 0)) AccessorTotalOffsetAlignment (Member (accessor_at n) name.ByteOffset) refl refl h) in
    let stride : size ≤ stride_or v.byte_stride size = not_small v.byte_stride size (unbroken is_of_layout rules 2 (is_small v.byte_stride size) AccessorSmallBytestride (Object (accessor_at n)) refl refl h) in
    let ending : offset + stride_or v.byte_stride size * (a.count.0 - 1) + size ≤ v.byte_length.0 = ltb-false v.byte_length.0 (offset + stride_or v.byte_stride size * (a.count.0 - 1) + size) (unbroken is_of_layout rules 3 (is_behind_view a v size) AccessorTooLong (Object (accessor_at n)) refl refl h) in
    let same = stride_same v.byte_stride size in
    let in_accessor = offset_same a.byte_offset in
    let in_view = offset_same v.byte_offset in
    record {
      view = ends_within v.byte_offset v.byte_length.0 b view;
      stride = subst (λ x. size ≤ x) same stride;
      some = some;
      end = subst (λ x. x + unwrap_or (option_map (λ s. s.0) v.byte_stride) size * (a.count.0 - 1) + size ≤ v.byte_length.0) in_accessor (subst (λ x. offset + x * (a.count.0 - 1) + size ≤ v.byte_length.0) same ending);
      offset_aligned = subst (λ x. x % component_size c ≡ 0) in_accessor at_offset;
      start_aligned = subst (λ x. (offset_or_0 v.byte_offset + x) % component_size c ≡ 0) in_accessor (subst (λ x. (x + offset_number a.byte_offset) % component_size c ≡ 0) in_view at_start);
      stride_aligned = subst (λ x. x % component_size c ≡ 0) same (stride_aligned v.byte_stride t c fourfold_stride);
    }

named : {X : Type 0} (xs : List X) (n : ℕ) → nat_le (length xs) n ≡ false → (x : X) × (slice_get xs n ≡ Some x)
named xs n h = is_there xs n (leb-false (length xs) n h)

-- elements of an accessor lie in a view of which nothing is found
lie_in : (buffers : List Buffer) (views : List View) (accessors : List Accessor) (n k m : ℕ) (a : Accessor) (v : View) (c : Numeric) (t : AccessorType) → 1 ≤ a.count.0 → slice_get views m ≡ Some v → are_without is_of_layout (found (layout_rules n a v (component_size c) (element_size t c))) ≡ true → are_without is_of_layout (view_findings buffers k v) ≡ true → (at : Location) × LieIn (stored_in buffers views accessors) m (layout_of a c t) at
lie_in buffers views accessors n k m a v c t some at layout view =
    let parts = without_append is_of_layout (found (view_rules buffers k v)) (stride_findings k v v.byte_stride) view in
    let rules = view_rules buffers k v in
    let buffer = named buffers (index_number v.buffer) (unbroken is_of_layout rules 0 (is_unresolved (length buffers) v.buffer) UnresolvedReference (Member (view_at k) name.Buffer) refl refl parts.0) in
    let behind : ends_behind_named (slice_get buffers (index_number v.buffer)) v ≡ false = unbroken is_of_layout rules 3 (is_behind_buffer buffers v) BufferViewTooLong (Member (view_at k) name.ByteLength) refl refl parts.0 in
    let within : ends_behind v.byte_offset v.byte_length.0 buffer.0.byte_length.0 ≡ false = subst (λ o. ends_behind_named o v ≡ false) buffer.1 behind in
    let l = layout_of a c t in (
      record { buffer = index_number v.buffer; span = span_of l (view_layout v) },
      record {
        v = stored_view v;
        buffer_length = buffer.0.byte_length.0;
        is_view = (slice_get-map stored_view views m ∙ ap (option_map stored_view) at, slice_get-map (λ b. b.byte_length.0) buffers (index_number v.buffer) ∙ ap (option_map (λ b. b.byte_length.0)) buffer.1);
        fits = fits n a v buffer.0.byte_length.0 c t some layout within (four k v v.byte_stride parts.1);
        buffer = refl;
        span = refl;
      },
    )

abbrev Lies : List Buffer → List View → List Accessor → Accessor → Type 0
Lies buffers views accessors a = (l : AccessorLayout) × HasElements (stored_accessor a) l × ((at : Option Location) × LieInNamed (stored_in buffers views accessors) (stored_accessor a).view l at)

pub lies : (buffers : List Buffer) (views : List View) (accessors : List Accessor) (n : ℕ) (a : Accessor) → are_without is_of_layout (accessor_findings views n a) ≡ true → ((m : ℕ) (v : View) → slice_get views m ≡ Some v → (k : ℕ) × (are_without is_of_layout (view_findings buffers k v) ≡ true)) → Lies buffers views accessors a
lies buffers views accessors n a h views_ok =
    let rules = accessor_rules (length views) n a in
    let bounds = found (bound_rules n a) in
    let deviating = findings_if (λ s. found (sparse_rules (length views) n a.count.0 s)) a.sparse in
    let elements = found (elements_rules views n a) in
    let last = without_append is_of_layout (found rules ++ bounds ++ deviating) elements h in
    let layout = last.1 in
    let parts = without_append is_of_layout (found rules) bounds (without_append is_of_layout (found rules ++ bounds) deviating last.0).0 in
    let component = valid_choice a.component_type (unbroken is_of_layout rules 2 (is_invalid a.component_type) ValueNotInList (Member (accessor_at n) name.ComponentType) refl refl parts.0) in
    let kind = valid_choice a.type_ (unbroken is_of_layout rules 3 (is_invalid a.type_) ValueNotInList (Member (accessor_at n) name.«Type») refl refl parts.0) in
    let some : 1 ≤ a.count.0 = ltb-false a.count.0 1 (unbroken is_of_layout rules 4 (nat_lt a.count.0 1) ValueNotInRange (Member (accessor_at n) name.Count) refl refl parts.0) in
    let resolved : is_some_unresolved (length views) a.buffer_view ≡ false = unbroken is_of_layout rules 0 (is_some_unresolved (length views) a.buffer_view) UnresolvedReference (Member (accessor_at n) name.BufferView) refl refl parts.0 in
    let c = component.0.0 in
    let t = kind.0 in
    let l = layout_of a c t in
    let has : HasElements (stored_accessor a) l = record {
      byte_offset = refl;
      component_type = ap (λ x. option_map (λ y. y.0) (chosen x)) component.1;
      type_ = ap chosen kind.1;
      count = refl;
      some = some;
    } in
    let d = stored_in buffers views accessors in (
      l,
      has,
      elim (some_or_none a.buffer_view) [
        | inl none ↦ (None, subst (λ o. LieInNamed d (option_map index_number o) l None) (sym none) tt)
        | inr x ↦
            let i = x.0 in
            let there = x.1 in
            let is : is_unresolved (length views) i ≡ false = subst (λ o. is_some_unresolved (length views) o ≡ false) there resolved in
            let v = named views (index_number i) is in
            let ok = views_ok (index_number i) v.0 v.1 in
            let seen : view_of views a ≡ Some v.0 = ap (λ o. view_of_index views (option_map index_number o)) there ∙ v.1 in
            let by_component = subst (λ x. are_without is_of_layout (found (elements_of n a (component_of x) (type_of_elements a.type_) (view_of views a))) ≡ true) component.1 layout in
            let by_type = subst (λ x. are_without is_of_layout (found (elements_of n a (Some c) (type_of_elements x) (view_of views a))) ≡ true) kind.1 by_component in
            let by_view = subst (λ x. are_without is_of_layout (found (elements_of n a (Some c) (Some t) x)) ≡ true) seen by_type in
            let place = lie_in buffers views accessors n ok.0 (index_number i) a v.0 c t some v.1 by_view ok.1 in
            (Some place.0, subst (λ o. LieInNamed d (option_map index_number o) l (Some place.0)) (sym there) place.1)
      ],
    )
