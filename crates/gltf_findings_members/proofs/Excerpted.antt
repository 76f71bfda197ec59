-- The same is wrong with an excerpt of a document as with the whole, if nothing is told of what is left out.
use Rattle.std.proofs.Common.{◌≡◌, ℕ, List, [], ◌∷◌, ◌++◌, Bool, true, false, ◌&&◌, if◌then◌else◌, Some, None, is_none, nat_cmp, refl, sym, ap, ap₂, ◌∙◌, true≢false, codes, Vec, Global, slice_get, bytes_eq}
use Rattle.std.specs.Prelude.{option_and_then}
use Rattle.std.proofs.lemmas.Bool.{false_from_ne_true}
use Rattle.std.proofs.lemmas.Slice.Eq.{bytes_eq-Decides}
use Rattle.std.specs.Cmp.Lexicographic.{slice_cmp}
use Rattle.std.specs.Ordering.{match_ordering}
use Rattle.serde_json.specs.Data.{Data, null, boolean, number, string, array, object, Members, no_members, member}
use Rattle.serde_json.specs.Find.{get, get_member, as_array}
use Rattle.gltf_base.specs.Steps.{Step, field}
use Rattle.gltf_schema.proofs.TakingOut.{skips}
use Rattle.gltf_schema.specs.declared.outline.Member.{Member}
use Rattle.gltf_schema.specs.declared.outline.Shape.{Shape}
use Rattle.gltf_schema.specs.declared.outline.Shape.TheVariants.{Object}
use Rattle.gltf_findings_codes.specs.declared.code.Code.TheVariants.{UndefinedProperty}
use Rattle.gltf_findings_members.specs.Empty.{empty_object_code}
use Rattle.gltf_findings_members.specs.Format.{Format, extension_lists}
use Rattle.gltf_findings_members.specs.Kept.{kept, excerpt}
use Rattle.gltf_findings_members.specs.LeftOut.{told_left_out, KeepsNeeded, LeavesOutFull, LeavesOutFullLists}
use Rattle.gltf_findings_members.specs.Noted.{Noted, maybe_note}
use Rattle.gltf_findings_members.specs.Notices.{all_notices, format_for, notices_at}
use Rattle.gltf_findings_members.specs.Required.{lacking_in, required_in, required_notices}
use Rattle.gltf_findings_members.specs.Rows.{is_needed, is_missing, is_target, missing_notices, own_notices}
use Rattle.gltf_findings_members.specs.Uses.{is_in}
use Rattle.gltf_findings_members.specs.Walk.{member_notice, member_notices, notices}
use Rattle.gltf_findings_members.proofs.NoneNoted.{first_none, rest_none}

module _ (P : List ℕ → Bool) where
  -- ---- a look-up

  apart : (k l : List ℕ) → (P k ≡ P l → ⊥) → bytes_eq k l ≡ false
  apart k l differ = false_from_ne_true (bytes_eq k l) (λ h. differ (ap P ((bytes_eq-Decides k l).0 h)))

  get_kept : (k : List ℕ) (ms : Members) → P k ≡ true → get_member k (kept P ms) ≡ get_member k ms
  get_kept k no_members held = refl
  get_kept k (member l e ms) held = at (P l) refl (get_kept k ms held)
    where
      at : (t : Bool) → P l ≡ t → get_member k (kept P ms) ≡ get_member k ms → get_member k (if t then member l e (kept P ms) else kept P ms) ≡ get_member k (member l e ms)
      at true is later = ap (λ r. match_ordering (slice_cmp nat_cmp k l) r (Some e) r) later
      at false is later = later ∙ sym (skips k l e ms (apart k l (λ same. true≢false (sym held ∙ same ∙ is))))

  get_left_out : (k : List ℕ) (ms : Members) → P k ≡ false → get_member k (kept P ms) ≡ None
  get_left_out k no_members out = refl
  get_left_out k (member l e ms) out = at (P l) refl (get_left_out k ms out)
    where
      at : (t : Bool) → P l ≡ t → get_member k (kept P ms) ≡ None → get_member k (if t then member l e (kept P ms) else kept P ms) ≡ None
      at true is later = skips k l e (kept P ms) (apart k l (λ same. true≢false (sym is ∙ sym same ∙ out))) ∙ later
      at false is later = later

  -- a member that is kept is found as in the whole
  pub get_excerpt : (k : List ℕ) (d : Data) → P k ≡ true → get k (excerpt P d) ≡ get k d
  get_excerpt k null held = refl
  get_excerpt k (boolean b) held = refl
  get_excerpt k (number n) held = refl
  get_excerpt k (string s) held = refl
  get_excerpt k (array ds) held = refl
  get_excerpt k (object ms) held = get_kept k ms held

  -- ---- members that have to be there

  missing_same : (m : Member) (ms : Members) → (is_needed m ≡ true → P m.name.now ≡ true) → is_missing (object (kept P ms)) m ≡ is_missing (object ms) m
  missing_same m ms needs = at (is_needed m) refl
    where
      at : (t : Bool) → is_needed m ≡ t → (if t && is_none (get_member m.name.now (kept P ms)) then Some UndefinedProperty else None) ≡ (if t && is_none (get_member m.name.now ms) then Some UndefinedProperty else None)
      at true is = ap (λ o. if is_none o then Some UndefinedProperty else None) (get_kept m.name.now ms (needs is))
      at false is = refl

  all_missing_same : (at : List Step) (ms : Members) (rows : List Member) → KeepsNeeded P rows → missing_notices at (object (kept P ms)) rows ≡ missing_notices at (object ms) rows
  all_missing_same at ms [] needs = refl
  all_missing_same at ms (m ∷ rows) needs = ap₂ (λ code rest. maybe_note (at ++ field m.name.now ∷ []) code ++ rest) (missing_same m ms needs.0) (all_missing_same at ms rows needs.1)

  -- ---- members

  told_same : (f : Format) (rows : List Member) (at : List Step) (ms : Members) → told_left_out P f rows at ms ≡ [] → member_notices f rows at (kept P ms) ≡ member_notices f rows at ms
  told_same f rows at no_members none = refl
  told_same f rows at (member n d ms) none = by (P n) none (told_same f rows at ms)
    where
      here : List Noted
      here = member_notice f rows (at ++ field n ∷ []) n d

      by : (t : Bool) → (if t then [] else here) ++ told_left_out P f rows at ms ≡ [] → (told_left_out P f rows at ms ≡ [] → member_notices f rows at (kept P ms) ≡ member_notices f rows at ms)
          → member_notices f rows at (if t then member n d (kept P ms) else kept P ms) ≡ here ++ member_notices f rows at ms
      by true none later = ap (λ xs. here ++ xs) (later none)
      by false none later =
          later (rest_none here (told_left_out P f rows at ms) none) ∙ ap (λ xs. xs ++ member_notices f rows at ms) (sym (first_none here (told_left_out P f rows at ms) none))

  -- ---- lists whose items have to have a member

  list_same : (list n : List ℕ) (ms : Members) → LeavesOutFull P list n (object ms) → required_in [] list n (object (kept P ms)) ≡ required_in [] list n (object ms)
  list_same list n ms full = at (P list) refl
    where
      at : (t : Bool) → P list ≡ t → required_in [] list n (object (kept P ms)) ≡ required_in [] list n (object ms)
      at true is = ap (λ o. lacking_in (field list ∷ []) n (option_and_then as_array o)) (get_kept list ms is)
      at false is = ap (λ o. lacking_in (field list ∷ []) n (option_and_then as_array o)) (get_left_out list ms is) ∙ sym (full is)

  lists_same : (ms : Members) → LeavesOutFullLists P (object ms) → required_notices [] (object (kept P ms)) ≡ required_notices [] (object ms)
  lists_same ms full =
      ap₂ (λ xs ys. xs ++ ys)
      (ap₂ (λ xs ys. xs ++ ys)
      (ap₂ (λ xs ys. xs ++ ys) (list_same (codes "animations") (codes "channels") ms full.0) (list_same (codes "animations") (codes "samplers") ms full.1))
      (list_same (codes "buffers") (codes "byteLength") ms full.2))
      (list_same (codes "skins") (codes "joints") ms full.3)

  -- ---- the whole

  own_same : (rows : List Member) (ms : Members) → is_target rows ≡ false → KeepsNeeded P rows → own_notices [] rows (kept P ms) (object (kept P ms)) ≡ own_notices [] rows ms (object ms)
  own_same rows ms other needs =
      ap (λ t. maybe_note [] (if t then empty_object_code (kept P ms) else None) ++ missing_notices [] (object (kept P ms)) rows) other
      ∙ all_missing_same [] ms rows needs
      ∙ ap (λ t. maybe_note [] (if t then empty_object_code ms else None) ++ missing_notices [] (object ms) rows) (sym other)

  format_same : (nodes : List Shape) (ms : Members) → P (codes "extensionsUsed") ≡ true → format_for nodes (object (kept P ms)) ≡ format_for nodes (object ms)
  format_same nodes ms used =
      ap (λ o. record { nodes = nodes; uses = λ q. is_in q (option_and_then as_array o); known = extension_lists nodes nodes }) (get_kept (codes "extensionsUsed") ms used)

  pub same_notices : (nodes : List Shape) (root : ℕ) (rows : Vec Member Global) (keeps : Bool) (ms : Members)
      → slice_get nodes root ≡ Some (Object rows keeps) → is_target rows.items ≡ false → P (codes "extensionsUsed") ≡ true → KeepsNeeded P rows.items → LeavesOutFullLists P (object ms)
      → told_left_out P (format_for nodes (object ms)) rows.items [] ms ≡ [] → all_notices nodes root (excerpt P (object ms)) ≡ all_notices nodes root (object ms)
  same_notices nodes root rows keeps ms shape other used needs full none =
      let f = format_for nodes (object ms) in
      let whole : notices f false (Some (Object rows keeps)) [] (object (kept P ms)) ≡ notices f false (Some (Object rows keeps)) [] (object ms) =
      ap₂ (λ xs ys. xs ++ ys) (own_same rows.items ms other needs) (told_same f rows.items [] ms none) in
      ap (λ g. notices_at g root [] (object (kept P ms))) (format_same nodes ms used)
      ∙ ap₂ (λ xs ys. xs ++ ys)
      (ap (λ s. notices f false s [] (object (kept P ms))) shape ∙ whole ∙ ap (λ s. notices f false s [] (object ms)) (sym shape))
      (lists_same ms full)
