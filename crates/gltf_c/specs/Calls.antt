-- What the calls return.
use Rattle.std.specs.Prelude.{◌≡◌, ◌⊎◌, true, ℕ, Bool, List, [], ◌∷◌, Option, Some, None, Result, Ok, Err, ⊤, nat_eq, if◌then◌else◌, codes, String, string_bytes}
use Rattle.std.specs.List.{starts_with}
use Rattle.std.specs.Str.Lines.{lines}
use Rattle.std.specs.Global.{Global, Vec}
use Rattle.gltf_schema.specs.Invalid.{holds_invalid}
use Rattle.gltf_schema.specs.Tree.{Tree}
use Rattle.gltf_base.specs.declared.error.Error.{Error}
use Rattle.gltf_base.specs.declared.error.Error.TheVariants as errors
use Rattle.gltf_root.specs.Answer.{Answer, no_json, no_document, document, answer}
use Rattle.gltf_root.specs.Styled.{IsReadBackIn, IsTextIn, style_of}
use Rattle.gltf_root.specs.declared.root.style.Nulls.TheVariants.{LeftOut}
use Rattle.gltf_root.specs.declared.root.style.Spacing.TheVariants.{Compact}
use Rattle.gltf_root.specs.declared.root.style.Style.{Style}
use Rattle.gltf_validation_rules.specs.Context.{Rules}
use Rattle.gltf_validation_rules.specs.Reports.{document_reports}
use Rattle.gltf_validation_rules.specs.Report.{Report}
use Rattle.gltf_buffers.specs.declared.error.GlbError.{GlbError}
use Rattle.gltf_report_lines.specs.Output.{Output, line, output, refusal}
use Rattle.gltf_report_lines.specs.Bytes.{json_of}
use Rattle.gltf_report_lines.specs.Lines.{report_lines}
use Rattle.gltf_report_lines.specs.declared.format.LineFormat.TheVariants.{Json as AsJson}
use Rattle.gltf_findings_lines.specs.Checked.{IsJsonOf, refusal_of}
use Rattle.gltf_findings_lines.specs.declared.check.FileFindings.{FileFindings}
use Rattle.gltf_findings_lines.specs.declared.check.Unread.{Unread}
use Rattle.gltf_findings_lines.specs.declared.check.Unread.TheVariants.{Container, NoJson, NoDocument}
use Rattle.gltf_findings_lines.specs.declared.file.File.{File}
use Rattle.gltf_c.specs.Filled.{IsFilled}
use Rattle.gltf_c.specs.declared.returned.Returned.{Returned}

-- rules of a caller in C: whether a texture may be without an image, and the names of the
-- extensions that a document may require, one a line
abbrev pub given_rules : Bool → List ℕ → Rules
given_rules empty_texture names = record { empty_texture = empty_texture; enabled = lines names }

-- a call returned an output: its text in the buffer, with its length, and its status
abbrev pub IsGiven : Output → List ℕ → List ℕ → Returned → Type 0
IsGiven due old new returned = (returned.status ≡ due.status) × IsFilled due.text old new returned.needed

-- bytes that begin as a container, but are none
abbrev pub no_container : Output
no_container = record { text = line (codes "refused: not binary glTF"); status = 7 }

-- what a run writes for the JSON of a file
abbrev pub file_output : Rules → Result (List ℕ) GlbError → Output
file_output rules (Ok json) = output rules json
file_output rules (Err e) = no_container

-- a call returned what a run writes for a document, or that memory was refused
abbrev pub IsChecked : Rules → List ℕ → List ℕ → List ℕ → Returned → Type 0
IsChecked rules bytes old new returned =
    IsGiven (file_output rules (json_of bytes)) old new returned ⊎ IsGiven refusal old new returned

-- no output, with a status
abbrev pub nothing : ℕ → Output
nothing status = record { text = []; status = status }

-- the lines of `gltf_lint --json` for reports; without a report there is no line
abbrev pub reports_listed : List ℕ → List Report → Output
reports_listed file [] = nothing 0
reports_listed file (r ∷ rs) = record { text = report_lines AsJson file (r ∷ rs); status = 1 }

abbrev pub answer_listed : Rules → List ℕ → Answer → Output
answer_listed rules file no_json = nothing 2
answer_listed rules file no_document = nothing 3
answer_listed rules file (document t) = reports_listed file (document_reports rules t)

-- the same for the JSON of a file
abbrev pub file_listed : Rules → List ℕ → Result (List ℕ) GlbError → Output
file_listed rules file (Ok json) = answer_listed rules file (answer json)
file_listed rules file (Err e) = nothing 7

-- a call listed the reports of a document, or memory was refused
abbrev pub IsListed : Rules → List ℕ → List ℕ → List ℕ → List ℕ → Returned → Type 0
IsListed rules file bytes old new returned =
    IsGiven (file_listed rules file (json_of bytes)) old new returned ⊎ IsGiven (nothing 4) old new returned

-- the lines of the reports of a document, or why there are none
abbrev pub IsListing : Rules → List ℕ → Answer → Result (String Global) Error → Type 0
IsListing rules file due (Ok found) = (t : Tree) × (due ≡ document t) × (string_bytes found ≡ report_lines AsJson file (document_reports rules t))
IsListing rules file due (Err errors.Json) = due ≡ no_json
IsListing rules file due (Err errors.Schema) = due ≡ no_document
IsListing rules file due (Err (errors.Memory e)) = ⊤
IsListing rules file due (Err _) = ⊥

-- all findings of a file, which is a container if its bytes begin as one
pub record AreFoundIn (named bytes : List ℕ) (found : FileFindings) : Type 0 where
  pub file : File
  pub is_named : file.name.now ≡ named
  pub is_made_of : file.bytes.now ≡ bytes
  pub is_sorted : file.is_container ≡ starts_with nat_eq bytes (codes "glTF")
  pub each : IsJsonOf file found

-- the status of findings: why the file is refused, else whether there is a finding
abbrev pub findings_status : Option Unread → List ℕ → ℕ
findings_status (Some NoJson) text = 2
findings_status (Some NoDocument) text = 3
findings_status (Some (Container e)) text = 7
findings_status None [] = 0
findings_status None (b ∷ bs) = 1

abbrev pub findings_output : FileFindings → Output
findings_output found = record { text = string_bytes found.lines; status = findings_status (refusal_of found) (string_bytes found.lines) }

-- a call listed the findings of a file, or memory was refused
abbrev pub AreFindingsListed : List ℕ → List ℕ → List ℕ → List ℕ → Returned → Type 0
AreFindingsListed named bytes old new returned =
    ((found : FileFindings) × AreFoundIn named bytes found × IsGiven (findings_output found) old new returned)
    ⊎ IsGiven (nothing 4) old new returned

-- one line, without nulls where the format allows none
abbrev pub rewrite_style : Style
rewrite_style = style_of Compact LeftOut

-- a document was written, with these bytes
abbrev pub IsWritingOf : Answer → List ℕ → Type 0
IsWritingOf due bytes = (t : Tree) × (due ≡ document t) × IsTextIn rewrite_style t bytes × IsReadBackIn rewrite_style t bytes

-- a document was read that can't be written, because something in it is invalid
abbrev pub IsUnwritable : Answer → Type 0
IsUnwritable due = (t : Tree) × (due ≡ document t) × (holds_invalid t ≡ true)

-- a document was read and written, or why not
abbrev pub IsRewriting : Answer → Result (Vec ℕ) Error → Type 0
IsRewriting due (Ok bytes) = IsWritingOf due bytes.items
IsRewriting due (Err errors.Json) = due ≡ no_json
IsRewriting due (Err errors.Schema) = due ≡ no_document
IsRewriting due (Err errors.InvalidItem) = IsUnwritable due
IsRewriting due (Err (errors.Memory e)) = ⊤
IsRewriting due (Err _) = ⊥

-- the status that the bytes alone decide
abbrev pub rewrite_status : Answer → ℕ
rewrite_status no_json = 2
rewrite_status no_document = 3
rewrite_status (document t) = if holds_invalid t then 5 else 0

-- a call wrote a document anew, as far as the buffer has room
abbrev pub IsRewritten : Answer → List ℕ → List ℕ → ℕ → Type 0
IsRewritten due old new needed = (bytes : List ℕ) × IsWritingOf due bytes × IsFilled bytes old new needed

-- the version of the ported crate, and the number of the port
abbrev pub version_output : Output
version_output = record { text = codes "1.4.1+1"; status = 0 }
