-- The lines that are printed for a document.
use Rattle.std.specs.Prelude.{ℕ, ◌-◌, List, [], ◌∷◌, ◌++◌, length, take, nat_lt, if◌then◌else◌, codes}
use Rattle.std.specs.Fmt.{decimal}
use Rattle.serde_json.specs.Data.{Data, number, string, object, member, no_members, unsigned}
use Rattle.serde_json.specs.Written.{compact_text}
use Rattle.gltf_base.specs.Errors.{error_text, error_code}
use Rattle.gltf_base.specs.Text.{path_text}
use Rattle.gltf_base.specs.Pointers.{pointer_text}
use Rattle.gltf_validation_rules.specs.Report.{Report}
use Rattle.gltf_base.specs.Device.{saturated}
use Rattle.gltf_report_lines.specs.Escaped.{escaped}
use Rattle.gltf_report_lines.specs.declared.format.LineFormat.{LineFormat}
use Rattle.gltf_report_lines.specs.declared.format.LineFormat.TheVariants.{Text, Json}

-- a text with the end of its line
abbrev pub line : List ℕ → List ℕ
line text = text ++ 10 ∷ []

-- a report of a file as JSON, and as text. Text escapes control bytes, or a name could be read as a line
abbrev pub report_data : List ℕ → Report → Data
report_data file r = object (member (codes "code") (string (error_code r.error))
    (member (codes "file") (string file)
    (member (codes "kind") (string (codes "report"))
    (member (codes "message") (string (error_text r.error))
    (member (codes "path") (string (path_text r.steps))
    (member (codes "pointer") (string (pointer_text r.steps)) no_members))))))

abbrev pub report_line : LineFormat → List ℕ → Report → List ℕ
report_line Text file r = line (escaped file ++ codes ": " ++ escaped (path_text r.steps) ++ codes ": " ++ error_text r.error)
report_line Json file r = line (compact_text (report_data file r))

-- that so many more reports are not printed
abbrev pub rest_data : List ℕ → ℕ → Data
rest_data file rest = object (member (codes "file") (string file)
    (member (codes "kind") (string (codes "more"))
    (member (codes "more") (number (unsigned rest)) no_members)))

abbrev pub rest_line : LineFormat → List ℕ → ℕ → List ℕ
rest_line Text file rest = line (escaped file ++ codes ": and " ++ decimal rest ++ codes " more")
rest_line Json file rest = line (compact_text (rest_data file rest))

-- the line behind those of the reports, if not all of them are printed
abbrev pub end_line : LineFormat → List ℕ → ℕ → ℕ → List ℕ
end_line format file most faults = if nat_lt most faults then rest_line format file (faults - most) else []

-- the lines of reports, in order
abbrev pub report_lines : LineFormat → List ℕ → List Report → List ℕ
report_lines format file [] = []
report_lines format file (r ∷ rs) = report_line format file r ++ report_lines format file rs

-- the lines for a file with these reports: those of the first reports, up to the most, and then how many more there are
abbrev pub file_lines : LineFormat → List ℕ → ℕ → List Report → List ℕ
file_lines format file most rs = report_lines format file (take most rs) ++ end_line format file most (saturated (length rs))
