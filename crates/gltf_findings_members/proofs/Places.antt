-- The number of the first row of a name.
use Rattle.std.proofs.Common.{◌≡◌, ℕ, suc, ◌<◌, List, ◌∷◌, drop, get_or, length, true, Some, ap, ◌∙◌, bytes_eq, drop-cons}
use Rattle.std.specs.Prelude.{if◌then◌else◌}
use Rattle.std.proofs.lemmas.Option.{slice_get-get_or}
use Rattle.std.proofs.lemmas.Slice.Eq.{bytes_eq-Decides}
use Rattle.gltf_schema.specs.declared.outline.Member.{Member}
use Rattle.gltf_findings_members.specs.Look.{IsRow}
use Rattle.gltf_findings_members.specs.Rows.{row_named}

pub found_here : (rows : List Member) (n : List ℕ) (i : ℕ) (d : Member) → i < length rows → row_named n rows ≡ row_named n (drop i rows) → bytes_eq (get_or rows i d).name.now n ≡ true → IsRow rows n i
found_here rows n i d less none same =
    let m = get_or rows i d in
    let named : row_named n (m ∷ drop (suc i) rows) ≡ Some m = ap (λ b. if b then Some m else row_named n (drop (suc i) rows)) same in (
      m,
      slice_get-get_or rows i d less,
      (bytes_eq-Decides m.name.now n).0 same,
      none ∙ ap (row_named n) (drop-cons rows i d less) ∙ named,
    )
