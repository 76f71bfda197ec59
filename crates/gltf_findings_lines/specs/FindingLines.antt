-- The lines for the findings of a file.
use Rattle.std.specs.Prelude.{◌≡◌, ℕ, List, [], ◌∷◌, ◌++◌, Option, Some, None, option_map, codes, length, take}
use Rattle.std.specs.Fmt.{decimal}
use Rattle.serde_json.specs.Data.{Data, null, number, string, object, member, no_members, unsigned}
use Rattle.serde_json.specs.Written.{compact_text}
use Rattle.gltf_findings_codes.specs.Codes.{code_message, code_name, code_section, severity_name}
use Rattle.gltf_findings_codes.specs.declared.code.Code.{Code}
use Rattle.gltf_findings_codes.specs.declared.code.Severity.{Severity}
use Rattle.gltf_findings_lines.specs.Located.{offset_data, pointer_data, where_of, where_text}
use Rattle.gltf_report_lines.specs.Escaped.{escaped}
use Rattle.gltf_report_lines.specs.Lines.{line, end_line}
use Rattle.gltf_findings_lines.specs.declared.position.Position.{Position}
use Rattle.gltf_report_lines.specs.declared.format.LineFormat.{LineFormat}
use Rattle.gltf_report_lines.specs.declared.format.LineFormat.TheVariants.{Text, Json}
use Rattle.gltf_findings_lines.specs.Parts.{file_parts}
use Rattle.gltf_findings_lines.specs.Placed.{ArePlaced, file_json}
use Rattle.gltf_findings_lines.specs.declared.choices.Shown.{Shown}
use Rattle.gltf_findings_lines.specs.declared.file.File.{File}
use Rattle.gltf_findings_lines.specs.declared.options.FindingOptions.{FindingOptions}
use Rattle.gltf_findings_lines.specs.declared.placed.Placed.{Placed}

abbrev pub number_data : Option ℕ → Data
number_data None = null
number_data (Some n) = number (unsigned n)

-- the line and the column as JSON
abbrev pub line_data : Option Position → Data
line_data p = number_data (option_map (λ q. q.line) p)

abbrev pub column_data : Option Position → Data
column_data p = number_data (option_map (λ q. q.column) p)

-- a finding of a file as JSON, and as text
abbrev pub finding_data : List ℕ → Placed → Data
finding_data file x = object (member (codes "code") (string (code_name x.shown.finding.code))
    (member (codes "column") (column_data x.position)
    (member (codes "file") (string file)
    (member (codes "kind") (string (codes "finding"))
    (member (codes "line") (line_data x.position)
    (member (codes "message") (string (code_message x.shown.finding.code))
    (member (codes "offset") (offset_data (where_of x.shown.finding.location))
    (member (codes "pointer") (pointer_data (where_of x.shown.finding.location))
    (member (codes "section") (string (code_section x.shown.finding.code))
    (member (codes "severity") (string (severity_name x.shown.severity)) no_members))))))))))

-- the line and the column behind the name of the file
abbrev pub position_text : Option Position → List ℕ
position_text None = []
position_text (Some p) = codes ":" ++ decimal p.line ++ codes ":" ++ decimal p.column

abbrev pub file_text : List ℕ → Option Position → List ℕ
file_text file p = escaped file ++ position_text p

abbrev pub severity_text : Severity → List ℕ
severity_text s = codes ": " ++ severity_name s ++ codes ": "

abbrev pub place_text : List ℕ → Placed → List ℕ
place_text file x = file_text file x.position ++ severity_text x.shown.severity ++ where_text (where_of x.shown.finding.location)

abbrev pub message_text : Code → List ℕ
message_text c = line (code_message c ++ codes " [" ++ code_name c ++ codes "]")

abbrev pub finding_text : List ℕ → Placed → List ℕ
finding_text file x = place_text file x ++ message_text x.shown.finding.code

abbrev pub finding_line : LineFormat → List ℕ → Placed → List ℕ
finding_line Text file x = finding_text file x
finding_line Json file x = line (compact_text (finding_data file x))

-- the lines of findings, in order
abbrev pub placed_lines : LineFormat → List ℕ → List Placed → List ℕ
placed_lines format file [] = []
placed_lines format file (x ∷ xs) = finding_line format file x ++ placed_lines format file xs

-- the lines of the first findings of a file, up to the most, and then how many more there are
pub record AreLinesOf (format : LineFormat) (o : FindingOptions) (file : File) (xs : List Shown) (text : List ℕ) : Type 0 where
  pub placed : List Placed
  pub are_placed : ArePlaced o.positions_up_to (file_json (file_parts file)) (take o.most xs) placed
  pub each : text ≡ placed_lines format file.name.now placed ++ end_line format file.name.now o.most (length xs)
