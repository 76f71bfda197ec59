-- Members by what their name leads to: those of rows, unknown ones, and extension objects.
use Rattle.std.proofs.Common.{◌≡◌, ℕ, List, [], Bool, true, false, Option, Some, None, refl, sym, ap, ◌∙◌, subst, bytes_eq}
use Rattle.std.specs.Prelude.{if◌then◌else◌, is_none, slice_get, ◌&&◌, codes}
use Rattle.std.proofs.lemmas.Slice.Eq.{bytes_eq-Decides}
use Rattle.json.specs.Json as tree
use Rattle.serde_json.specs.Data.{Data, null}
use Rattle.gltf_base.specs.Steps.{Step}
use Rattle.gltf_schema.specs.declared.outline.Member.{Member}
use Rattle.gltf_findings_codes.specs.declared.code.Code.TheVariants.{UndeclaredExtension}
use Rattle.gltf_findings_codes.specs.declared.code.Code.{Code}
use Rattle.gltf_findings_members.specs.Format.{Format, extension_rows_of, extras_code, unknown_extension_code}
use Rattle.gltf_findings_members.specs.Members.{extension_row}
use Rattle.gltf_findings_members.specs.Noted.{Noted, maybe_note}
use Rattle.gltf_findings_members.specs.Walk.{extension_level, extension_notice, extensions_notices, member_notice, named_level, notices, row_notices}
use Rattle.gltf_findings_members.specs.Quiet.{IsQuiet, Reading}
use Rattle.gltf_findings_members.specs.Rows.{or_null, reads_null_as_absent, row_named, unknown_code}
use Rattle.gltf_findings_members.proofs.NoneNoted.{reads_as}

-- ---- the member of a row

row_at : (b : Bool) (ns : List Noted) → ns ≡ [] → (if b then [] else ns) ≡ []
row_at true ns none = refl
row_at false ns none = none

pub row_quiet : (f : Format) (m : Member) (j : tree.Json) → IsQuiet f (slice_get f.nodes m.value) j → (at : List Step) → Reading j (λ d. row_notices f m at d ≡ [])
row_quiet f m j quiet at d read = row_at (reads_null_as_absent m d) (notices f false (slice_get f.nodes m.value) at d) (quiet false at d read)

pub row_absent : (f : Format) (m : Member) (at : List Step) → or_null m.presence ≡ true → Reading tree.null (λ d. row_notices f m at d ≡ [])
row_absent f m at may = reads_as tree.null null (λ d. row_notices f m at d ≡ []) refl (ap (λ b. if b && true then [] else notices f false (slice_get f.nodes m.value) at null) may)

-- neither of the two members that every object may have
other_level : (a b : Bool) (xs ys zs : List Noted) → a ≡ false → b ≡ false → zs ≡ [] → (if a then xs else if b then ys else zs) ≡ []
other_level true b xs ys zs not_a not_b none = absurd (cc)
other_level false true xs ys zs not_a not_b none = absurd (cc)
other_level false false xs ys zs not_a not_b none = none

named_quiet : (o : Option Member) (m : Member) (f : Format) (at : List Step) (rows : List Member) (n : List ℕ) (d : Data) → o ≡ Some m → row_notices f m at d ≡ [] → named_level (λ i. notices f false (slice_get f.nodes i) at d) at rows n o d ≡ []
named_quiet None m f at rows n d is none = absurd (cc)
named_quiet (Some x) m f at rows n d is none = let same : x ≡ m = cc in subst (λ y. row_notices f y at d ≡ []) (sym same) none

pub member_of_row : (f : Format) (rows : List Member) (m : Member) (at : List Step) (n : List ℕ) (d : Data) → bytes_eq n (codes "extensions") ≡ false → bytes_eq n (codes "extras") ≡ false → row_named n rows ≡ Some m → row_notices f m at d ≡ []
    → member_notice f rows at n d ≡ []
member_of_row f rows m at n d extensions extras row none =
    other_level (bytes_eq n (codes "extensions")) (bytes_eq n (codes "extras")) (extensions_notices f (extension_rows_of f.nodes f.known rows (row_named n rows)) at d) (maybe_note at (extras_code d))
    (named_level (λ i. notices f false (slice_get f.nodes i) at d) at rows n (row_named n rows) d) extensions extras (named_quiet (row_named n rows) m f at rows n d row none)

-- ---- unknown members

pub is_none_of : {X : Type 0} (o : Option X) → is_none o ≡ true → o ≡ None
is_none_of None is = refl
is_none_of (Some x) is = absurd (cc)

pub other_text : (a b : List ℕ) → (a ≡ b → ⊥) → bytes_eq a b ≡ false
other_text a b apart = by (bytes_eq a b) refl
  where
    by : (c : Bool) → bytes_eq a b ≡ c → c ≡ false
    by true e = absurd (apart ((bytes_eq-Decides a b).0 e))
    by false e = refl

named_unknown : (o : Option Member) (inside : ℕ → List Noted) (at : List Step) (rows : List Member) (n : List ℕ) (d : Data) → o ≡ None → unknown_code rows n ≡ None → named_level inside at rows n o d ≡ []
named_unknown None inside at rows n d is none = ap (maybe_note at) none
named_unknown (Some m) inside at rows n d is none = absurd (cc)

pub unknown_member : (f : Format) (rows : List Member) (at : List Step) (n : List ℕ) (d : Data) → bytes_eq n (codes "extensions") ≡ false → bytes_eq n (codes "extras") ≡ false → row_named n rows ≡ None → unknown_code rows n ≡ None
    → member_notice f rows at n d ≡ []
unknown_member f rows at n d extensions extras row none =
    other_level (bytes_eq n (codes "extensions")) (bytes_eq n (codes "extras")) (extensions_notices f (extension_rows_of f.nodes f.known rows (row_named n rows)) at d) (maybe_note at (extras_code d))
    (named_level (λ i. notices f false (slice_get f.nodes i) at d) at rows n (row_named n rows) d) extensions extras (named_unknown (row_named n rows) (λ i. notices f false (slice_get f.nodes i) at d) at rows n d row none)

-- ---- extension objects

pub declared : (b : Bool) (o : Option Code) → o ≡ (if b then None else Some UndeclaredExtension) → is_none o ≡ true → b ≡ true
declared true o is none = refl
declared false o is none = let never : false ≡ true = ap is_none (sym is) ∙ none in absurd (cc)

unknown_at : (o : Option Member) (f : Format) (inside : ℕ → List Noted) (at : List Step) (n : List ℕ) (d : Data) → o ≡ None → unknown_extension_code f n d ≡ None → extension_level f inside at n o d ≡ []
unknown_at None f inside at n d is none = ap (maybe_note at) none
unknown_at (Some m) f inside at n d is none = absurd (cc)

pub unknown_extension : (f : Format) (rows : Option (List Member)) (at : List Step) (n : List ℕ) (d : Data) → extension_row rows n ≡ None → unknown_extension_code f n d ≡ None → extension_notice f rows at n d ≡ []
unknown_extension f rows at n d row none = unknown_at (extension_row rows n) f (λ i. notices f false (slice_get f.nodes i) at d) at n d row none
