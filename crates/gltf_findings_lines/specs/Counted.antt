-- How many findings of each severity there are. A count stops at the largest number of 64 bits.
use Rattle.std.specs.Prelude.{ℕ, ◌+◌, List, [], ◌∷◌}
use Rattle.gltf_base.specs.Device.{saturated}
use Rattle.gltf_findings_codes.specs.declared.code.Severity.{Severity}
use Rattle.gltf_findings_codes.specs.declared.code.Severity.TheVariants.{Error, Warning, Information, Hint}
use Rattle.gltf_findings_lines.specs.declared.choices.Shown.{Shown}
use Rattle.gltf_findings_lines.specs.declared.counts.Counts.{Counts}

abbrev pub no_counts : Counts
no_counts = record { errors = 0; warnings = 0; information = 0; hints = 0 }

-- one more of a severity
abbrev pub counted_one : Severity → Counts → Counts
counted_one Error c = record c { errors = saturated (c.errors + 1) }
counted_one Warning c = record c { warnings = saturated (c.warnings + 1) }
counted_one Information c = record c { information = saturated (c.information + 1) }
counted_one Hint c = record c { hints = saturated (c.hints + 1) }

abbrev pub counted_from : Counts → List Shown → Counts
counted_from c [] = c
counted_from c (x ∷ xs) = counted_from (counted_one x.severity c) xs

abbrev pub counts_of : List Shown → Counts
counts_of xs = counted_from no_counts xs

abbrev pub counts_sum : Counts → Counts → Counts
counts_sum a b = record {
  errors = saturated (a.errors + b.errors);
  warnings = saturated (a.warnings + b.warnings);
  information = saturated (a.information + b.information);
  hints = saturated (a.hints + b.hints);
}

-- how many are at least as severe as a level
abbrev pub at_least : Severity → Counts → ℕ
at_least Error c = c.errors
at_least Warning c = saturated (c.errors + c.warnings)
at_least Information c = saturated (saturated (c.errors + c.warnings) + c.information)
at_least Hint c = saturated (saturated (saturated (c.errors + c.warnings) + c.information) + c.hints)
