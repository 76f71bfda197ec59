-- The lines of the reports so far, and the reports that are still to come.
use Rattle.std.proofs.Common.{◌≡◌, ℕ, zero, suc, ◌+◌, ◌-◌, ◌^◌, ◌<◌, ◌≤◌, List, [], ◌∷◌, ◌++◌, length, take, refl, append_assoc, arith}
use Rattle.std.proofs.lemmas.Bool.{lt-ltb, le-ltb}
use Rattle.std.proofs.lemmas.List.{append-nil}
use Rattle.gltf_validation_rules.specs.Report.{Report}
use Rattle.gltf_base.specs.Device.{saturated}
use Rattle.gltf_report_lines.specs.declared.format.LineFormat.{LineFormat}
use Rattle.gltf_report_lines.specs.Lines.{report_line, rest_line, report_lines, file_lines}

-- behind so many of all reports a text has their lines, up to the most, and the rest is still to come
pub record IsPrinted (format : LineFormat) (file : List ℕ) (most : ℕ) (all : List Report) (text : List ℕ) (before : ℕ) (rest : List Report) : Type 0 where
  pub lines : report_lines format file (take most all) ≡ text ++ report_lines format file (take (most - before) rest)
  pub count : saturated (length all) ≡ saturated (before + length rest)

lines-none : (format : LineFormat) (file : List ℕ) (n : ℕ) → report_lines format file (take n []) ≡ []
lines-none format file zero = refl
lines-none format file (suc n) = refl

module _ {format : LineFormat} {file : List ℕ} {most : ℕ} {all : List Report} {text : List ℕ} {before : ℕ} {rest : List Report} where
  -- the line of one more report
  pub IsPrinted-more : (new : List ℕ) (after : ℕ) (r : Report) (rs : List Report) → IsPrinted format file most all text before rest → before < most → most < 2 ^ 64
      → rest ≡ r ∷ rs → new ≡ text ++ report_line format file r → after ≡ saturated (before + 1) → IsPrinted format file most all new after rs
  IsPrinted-more new after r rs h within fits here appended next =
      let more : most - before ≡ suc (most - after) = omega arith in
      let lines = rw (here, more) at h.lines in
      let count = rw here at h.count in
      record { lines = rw (appended, append_assoc) lines; count = omega arith }

  -- no line of a report behind the most
  pub IsPrinted-past : (new : List ℕ) (after : ℕ) (r : Report) (rs : List Report) → IsPrinted format file most all text before rest → most ≤ before → before < 2 ^ 64
      → rest ≡ r ∷ rs → new ≡ text → after ≡ saturated (before + 1) → IsPrinted format file most all new after rs
  IsPrinted-past new after r rs h past fits here same next =
      let none : most - before ≡ 0 = omega arith in
      let none_after : most - after ≡ 0 = omega arith in
      let lines = rw none at h.lines in
      let count = rw here at h.count in
      record { lines = rw (same, none_after) lines; count = omega arith }

  -- behind the last report: more than the most
  pub IsPrinted-cut : (new : List ℕ) → IsPrinted format file most all text before rest → most < before → before < 2 ^ 64
      → rest ≡ [] → new ≡ text ++ rest_line format file (before - most) → new ≡ file_lines format file most all
  IsPrinted-cut new h more fits none appended =
      let lines = rw (none, lines-none, append-nil) at h.lines in
      let counted = rw none at h.count in
      let count : before ≡ saturated (length all) = omega arith in
      let cut = lt-ltb most before more in
      rw (lines, ← count, cut) appended

  -- behind the last report: no more than the most
  pub IsPrinted-whole : (new : List ℕ) → IsPrinted format file most all text before rest → before ≤ most → before < 2 ^ 64
      → rest ≡ [] → new ≡ text → new ≡ file_lines format file most all
  IsPrinted-whole new h within fits none same =
      let lines = rw (none, lines-none, append-nil) at h.lines in
      let counted = rw none at h.count in
      let count : before ≡ saturated (length all) = omega arith in
      let whole = le-ltb most before within in
      rw (lines, ← count, whole, append-nil) same
