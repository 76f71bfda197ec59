-- What is wrong with a value and with all that it holds, beside the outline of its type.
use Rattle.std.specs.Prelude.{ℕ, ◌+◌, List, [], ◌∷◌, ◌++◌, Bool, true, false, if◌then◌else◌, Option, Some, None, slice_get, bytes_eq, codes}
use Rattle.serde_json.specs.Data as json
use Rattle.serde_json.specs.Data.{Data, Items, Members}
use Rattle.gltf_base.specs.Steps.{Step, field, item}
use Rattle.gltf_schema.specs.declared.outline.Member.{Member}
use Rattle.gltf_schema.specs.declared.outline.Shape.{Shape}
use Rattle.gltf_schema.specs.declared.outline.Shape.TheVariants.{Numbers, Indexes, List as ListOf, Object}
use Rattle.gltf_findings_codes.specs.declared.code.Code.TheVariants.{TypeMismatch}
use Rattle.gltf_findings_members.specs.Noted.{Noted, note, maybe_note}
use Rattle.gltf_findings_members.specs.Misfits.{misfit_in}
use Rattle.gltf_findings_members.specs.Lists.{empty_code, length_code, repeat_notices}
use Rattle.gltf_findings_members.specs.Rows.{row_named, reads_null_as_absent, own_notices, unknown_code}
use Rattle.gltf_findings_members.specs.Members.{attributes_notices, extension_row}
use Rattle.gltf_findings_members.specs.Format.{Format, extension_rows_of, undeclared_code, unknown_extension_code, extras_code}

-- ---- one level, with what is noticed inside

-- the rows of what an object is read by
abbrev pub object_rows : Option Shape → List Member
object_rows (Some (Object rows keeps)) = rows.items
object_rows _ = []

-- the shape of the items of what an array is read by
abbrev pub items_shape : Format → Option Shape → Option Shape
items_shape f (Some (ListOf j)) = slice_get f.nodes j
items_shape f (Some (Numbers n j)) = slice_get f.nodes j
items_shape f _ = None

abbrev pub object_level : Bool → Option Shape → List Step → Members → List Noted → List Noted
object_level l (Some (Object rows keeps)) at ms inside = own_notices at rows.items ms (json.object ms) ++ inside
object_level l (Some (Indexes j)) at ms inside = attributes_notices at ms
object_level l s at ms inside = maybe_note at (misfit_in l s (json.object ms))

abbrev pub array_level : Format → Bool → Option Shape → List Step → Items → List Noted → List Noted
array_level f l (Some (ListOf j)) at ds inside = maybe_note at (empty_code ds) ++ inside ++ repeat_notices (slice_get f.nodes j) at ds
array_level f l (Some (Numbers n j)) at ds inside = maybe_note at (length_code n ds) ++ inside
array_level f l s at ds inside = maybe_note at (misfit_in l s (json.array ds))

-- the member of a row, with what is noticed at a value of that row's shape
abbrev pub row_level : (ℕ → List Noted) → Member → Data → List Noted
row_level inside m d = if reads_null_as_absent m d then [] else inside m.value

abbrev pub named_level : (ℕ → List Noted) → List Step → List Member → List ℕ → Option Member → Data → List Noted
named_level inside at rows n (Some m) d = row_level inside m d
named_level inside at rows n None d = maybe_note at (unknown_code rows n)

-- a member of an object: its extension objects, its extras, or the member of a row
abbrev pub member_level : (ℕ → List Noted) → List Noted → List Step → List Member → List ℕ → Data → List Noted
member_level inside extensions at rows n d =
    if bytes_eq n (codes "extensions") then extensions else
    if bytes_eq n (codes "extras") then maybe_note at (extras_code d) else
    named_level inside at rows n (row_named n rows) d

-- an extension object: that of a row, or one that the table doesn't know
abbrev pub extension_level : Format → (ℕ → List Noted) → List Step → List ℕ → Option Member → Data → List Noted
extension_level f inside at n (Some m) d = row_level inside m d
extension_level f inside at n None d = maybe_note at (unknown_extension_code f n d)

-- ---- every level

abbrev mutual
  -- what is wrong with a value at the end of steps, which may be an item of a list
  pub notices : Format → Bool → Option Shape → List Step → Data → List Noted
  notices f l s at (json.object ms) = object_level l s at ms (member_notices f (object_rows s) at ms)
  notices f l s at (json.array ds) = array_level f l s at ds (item_notices f (items_shape f s) at 0 ds)
  notices f l s at json.null = maybe_note at (misfit_in l s json.null)
  notices f l s at (json.boolean b) = maybe_note at (misfit_in l s (json.boolean b))
  notices f l s at (json.number n) = maybe_note at (misfit_in l s (json.number n))
  notices f l s at (json.string t) = maybe_note at (misfit_in l s (json.string t))

  -- the items from the one of number i on
  pub item_notices : Format → Option Shape → List Step → ℕ → Items → List Noted
  item_notices f s at i json.no_items = []
  item_notices f s at i (json.item d ds) = notices f true s (at ++ item i ∷ []) d ++ item_notices f s at (i + 1) ds

  -- the members of an object, in the byte order of names
  pub member_notices : Format → List Member → List Step → Members → List Noted
  member_notices f rows at json.no_members = []
  member_notices f rows at (json.member n d ms) =
      member_level (λ i. notices f false (slice_get f.nodes i) (at ++ field n ∷ []) d)
      (extensions_notices f (extension_rows_of f.nodes f.known rows (row_named n rows)) (at ++ field n ∷ []) d) (at ++ field n ∷ []) rows n d
      ++ member_notices f rows at ms

  -- the extension objects of an object
  pub extensions_notices : Format → Option (List Member) → List Step → Data → List Noted
  extensions_notices f rows at (json.object ms) = extension_members_notices f rows at ms
  extensions_notices f rows at json.null = []
  extensions_notices f rows at (json.boolean b) = note at TypeMismatch ∷ []
  extensions_notices f rows at (json.number n) = note at TypeMismatch ∷ []
  extensions_notices f rows at (json.string t) = note at TypeMismatch ∷ []
  extensions_notices f rows at (json.array ds) = note at TypeMismatch ∷ []

  pub extension_members_notices : Format → Option (List Member) → List Step → Members → List Noted
  extension_members_notices f rows at json.no_members = []
  extension_members_notices f rows at (json.member n d ms) =
      maybe_note (at ++ field n ∷ []) (undeclared_code f n)
      ++ extension_level f (λ i. notices f false (slice_get f.nodes i) (at ++ field n ∷ []) d) (at ++ field n ∷ []) n (extension_row rows n) d
      ++ extension_members_notices f rows at ms

-- ---- words of the functions

abbrev pub row_notices : Format → Member → List Step → Data → List Noted
row_notices f m at d = row_level (λ i. notices f false (slice_get f.nodes i) at d) m d

abbrev pub member_notice : Format → List Member → List Step → List ℕ → Data → List Noted
member_notice f rows at n d = member_level (λ i. notices f false (slice_get f.nodes i) at d) (extensions_notices f (extension_rows_of f.nodes f.known rows (row_named n rows)) at d) at rows n d

abbrev pub extension_notice : Format → Option (List Member) → List Step → List ℕ → Data → List Noted
extension_notice f rows at n d = extension_level f (λ i. notices f false (slice_get f.nodes i) at d) at n (extension_row rows n) d
