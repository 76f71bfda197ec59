-- The report of a file in the form of the Khronos glTF-Validator.
use Rattle.std.specs.Prelude.{ℕ, List, [], ◌∷◌, Option, Some, None, false, length, take, map, nat_lt, if◌then◌else◌, codes}
use Rattle.serde_json.specs.Data.{Data, boolean, number, string, array, object, member, no_members, unsigned}
use Rattle.serde_json.specs.View.{items_of}
use Rattle.gltf_findings_codes.specs.declared.code.Severity.{Severity}
use Rattle.gltf_findings_codes.specs.declared.code.Severity.TheVariants.{Error, Warning, Information, Hint}
use Rattle.gltf_findings_codes.specs.Codes.{code_message, code_name}
use Rattle.gltf_findings_lines.specs.Counted.{counts_of}
use Rattle.gltf_findings_lines.specs.Info.{info_data}
use Rattle.gltf_findings_lines.specs.Located.{Where, byte, place, where_of}
use Rattle.gltf_findings_lines.specs.declared.file.File.{File}
use Rattle.gltf_findings_lines.specs.declared.choices.Shown.{Shown}
use Rattle.gltf_findings_lines.specs.declared.counts.Counts.{Counts}
use Rattle.gltf_findings_lines.specs.declared.info.Contents.{Contents}

-- severities as numbers
abbrev pub severity_number : Severity → ℕ
severity_number Error = 0
severity_number Warning = 1
severity_number Information = 2
severity_number Hint = 3

-- a finding in a container has an offset, and any other a pointer
abbrev pub message_at : Where → Shown → Data
message_at (byte n) x = object (member (codes "code") (string (code_name x.finding.code))
    (member (codes "message") (string (code_message x.finding.code))
    (member (codes "offset") (number (unsigned n))
    (member (codes "severity") (number (unsigned (severity_number x.severity))) no_members))))
message_at (place p) x = object (member (codes "code") (string (code_name x.finding.code))
    (member (codes "message") (string (code_message x.finding.code))
    (member (codes "pointer") (string p)
    (member (codes "severity") (number (unsigned (severity_number x.severity))) no_members))))

abbrev pub message_data : Shown → Data
message_data x = message_at (where_of x.finding.location) x

-- all findings are counted, and the first ones are listed
abbrev pub issues_with : Counts → ℕ → List Shown → Data
issues_with c most xs = object (member (codes "messages") (array (items_of (map message_data (take most xs))))
    (member (codes "numErrors") (number (unsigned c.errors))
    (member (codes "numHints") (number (unsigned c.hints))
    (member (codes "numInfos") (number (unsigned c.information))
    (member (codes "numWarnings") (number (unsigned c.warnings))
    (member (codes "truncated") (boolean (nat_lt most (length xs))) no_members))))))

abbrev pub issues_data : ℕ → List Shown → Data
issues_data most xs = issues_with (counts_of xs) most xs

abbrev pub mime_type : File → List ℕ
mime_type file = if file.is_container then codes "model/gltf-binary" else codes "model/gltf+json"

abbrev pub validator_version : List ℕ
validator_version = codes "gltf_lint 1.4.1+1"

unfoldable pub khronos_data : File → Contents → ℕ → List Shown → Data
khronos_data file info most xs = object (member (codes "info") (info_data info)
    (member (codes "issues") (issues_data most xs)
    (member (codes "mimeType") (string (mime_type file))
    (member (codes "uri") (string file.name.now)
    (member (codes "validatorVersion") (string validator_version) no_members)))))

-- the report of a file that holds no document
unfoldable pub unread_data : File → ℕ → List Shown → Data
unread_data file most xs = object (member (codes "issues") (issues_data most xs)
    (member (codes "mimeType") (string (mime_type file))
    (member (codes "uri") (string file.name.now)
    (member (codes "validatorVersion") (string validator_version) no_members))))

-- why a file is refused, by a code of the validator
abbrev pub refusal_message : List ℕ → List ℕ → Option (List ℕ) → Data
refusal_message code message None = object (member (codes "code") (string code)
    (member (codes "message") (string message)
    (member (codes "severity") (number (unsigned 0)) no_members)))
refusal_message code message (Some pointer) = object (member (codes "code") (string code)
    (member (codes "message") (string message)
    (member (codes "pointer") (string pointer)
    (member (codes "severity") (number (unsigned 0)) no_members))))

abbrev pub refusal_issues : Data → Data
refusal_issues message = object (member (codes "messages") (array (items_of (message ∷ [])))
    (member (codes "numErrors") (number (unsigned 1))
    (member (codes "numHints") (number (unsigned 0))
    (member (codes "numInfos") (number (unsigned 0))
    (member (codes "numWarnings") (number (unsigned 0))
    (member (codes "truncated") (boolean false) no_members))))))

unfoldable pub refusal_data : File → Data → Data
refusal_data file message = object (member (codes "issues") (refusal_issues message)
    (member (codes "mimeType") (string (mime_type file))
    (member (codes "uri") (string file.name.now)
    (member (codes "validatorVersion") (string validator_version) no_members))))
