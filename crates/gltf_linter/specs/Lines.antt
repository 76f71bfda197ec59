-- The lines that are neither findings nor reports.
use Rattle.std.specs.Prelude.{ℕ, List, ◌++◌, codes}
use Rattle.std.specs.Fmt.{decimal}
use Rattle.serde_json.specs.Data.{Data, number, string, object, member, no_members, unsigned}
use Rattle.gltf_report_lines.specs.Escaped.{escaped}
use Rattle.gltf_report_lines.specs.Lines.{line}
use Rattle.gltf_findings_lines.specs.declared.counts.Counts.{Counts}
use Rattle.gltf_linter.specs.declared.tally.Tally.{Tally}

-- that a file is refused, as text
abbrev pub refused_line : List ℕ → List ℕ → List ℕ
refused_line file why = line (escaped file ++ codes ": refused: " ++ escaped why)

-- how many of something there are
abbrev pub count_text : List ℕ → ℕ → List ℕ
count_text name n = codes ", " ++ name ++ codes ": " ++ decimal n

abbrev pub files_text : Tally → List ℕ
files_text t = codes "files: " ++ decimal t.files

abbrev pub refusals_text : Tally → List ℕ
refusals_text t = line (count_text (codes "refused") t.refused)

-- the counts of reports, as JSON and as text
abbrev pub summary_data : Tally → Data
summary_data t = object (member (codes "faults") (number (unsigned t.faults))
    (member (codes "files") (number (unsigned t.files))
    (member (codes "kind") (string (codes "summary"))
    (member (codes "refused") (number (unsigned t.refused)) no_members))))

abbrev pub summary_text : Tally → List ℕ
summary_text t = files_text t ++ count_text (codes "faults") t.faults ++ refusals_text t

-- the counts of findings, as JSON and as text
abbrev pub counts_data : Tally → Counts → Data
counts_data t c = object (member (codes "errors") (number (unsigned c.errors))
    (member (codes "files") (number (unsigned t.files))
    (member (codes "hints") (number (unsigned c.hints))
    (member (codes "information") (number (unsigned c.information))
    (member (codes "kind") (string (codes "summary"))
    (member (codes "refused") (number (unsigned t.refused))
    (member (codes "warnings") (number (unsigned c.warnings)) no_members)))))))

abbrev pub severities_text : Counts → List ℕ
severities_text c = count_text (codes "errors") c.errors ++ count_text (codes "warnings") c.warnings ++ count_text (codes "information") c.information ++ count_text (codes "hints") c.hints

abbrev pub counts_text : Tally → Counts → List ℕ
counts_text t c = files_text t ++ severities_text c ++ refusals_text t
