-- What is printed and counted for a file.
use Rattle.std.specs.Prelude.{◌≡◌, ◌-◌, ◌^◌, ℕ, List, [], ◌++◌, map, IsUtf8, ◌==◌, if◌then◌else◌, Option, Some, None, Result, Ok, Err, string_bytes}
use Rattle.serde_json.specs.Read.{read as read_json}
use Rattle.serde_json.specs.Written.{compact_text}
use Rattle.gltf_report_lines.specs.Lines.{line}
use Rattle.gltf_buffers.specs.declared.error.GlbError.{GlbError}
use Rattle.gltf_schema.specs.declared.outline.Outline.{Outline}
use Rattle.gltf_schema.specs.Outline.{IsShapeOf}
use Rattle.gltf_report_lines.specs.declared.format.LineFormat.TheVariants.{Json}
use Rattle.gltf_root.specs.Answer.{Answer, no_json, no_document, document, answer}
use Rattle.gltf_root.specs.Root.{root_kind, root_tree}
use Rattle.gltf_root.specs.declared.root.Root.{Root}
use Rattle.gltf_findings_codes.specs.declared.finding.Finding.{Finding}
use Rattle.gltf_findings_codes.specs.Found.{findings_from}
use Rattle.gltf_findings.specs.Findings.{AreFindings}
use Rattle.gltf_findings_members.specs.Noted.{Noted, noted}
use Rattle.gltf_findings_files.specs.declared.container.Container.{Container}
use Rattle.gltf_findings_files.specs.Objects.{buffer_findings, image_findings}
use Rattle.gltf_findings_lines.specs.Chosen.{chosen}
use Rattle.gltf_findings_lines.specs.Counted.{counts_of}
use Rattle.gltf_findings_lines.specs.FindingLines.{AreLinesOf}
use Rattle.gltf_findings_lines.specs.Info.{IsInfo}
use Rattle.gltf_findings_lines.specs.Khronos.{khronos_data, unread_data}
use Rattle.gltf_findings_lines.specs.Located.{Located, located}
use Rattle.gltf_findings_lines.specs.Members.{value_members}
use Rattle.gltf_findings_lines.specs.Parts.{FileParts, container_findings, file_parts}
use Rattle.gltf_findings_lines.specs.Sources.{all_located}
use Rattle.gltf_findings_lines.specs.declared.check.FileFindings.{FileFindings}
use Rattle.gltf_findings_lines.specs.declared.check.Unread.{Unread}
use Rattle.gltf_findings_lines.specs.declared.check.Unread.TheVariants.{Container as NoContainer, NoJson, NoDocument}
use Rattle.gltf_findings_lines.specs.declared.file.File.{File}
use Rattle.gltf_findings_lines.specs.declared.finding.FileFinding.{FileFinding}
use Rattle.gltf_findings_lines.specs.declared.choices.Shown.{Shown}
use Rattle.gltf_findings_lines.specs.declared.info.Contents.{Contents}
use Rattle.gltf_findings_lines.specs.declared.options.FindingOptions.{FindingOptions}
use Rattle.gltf_findings_lines.specs.declared.options.Style.{Style}
use Rattle.gltf_findings_lines.specs.declared.options.Style.TheVariants.{Lines, Khronos}
use Rattle.gltf_findings_lines.specs.declared.sources.Sources.{Sources}

-- the validator's report of a file that holds a document
pub record IsReportOf (file : File) (r : Root) (most : ℕ) (xs : List Shown) (text : List ℕ) : Type 0 where
  pub info : Contents
  pub is_info : IsInfo r info
  pub each : text ≡ line (compact_text (khronos_data file info most xs))

-- what is printed for the findings of a file, with the document that it holds
abbrev pub IsPrintedAs : Style → FindingOptions → File → Option Root → List Shown → List ℕ → Type 0
IsPrintedAs (Lines format) o file root xs text = AreLinesOf format o file xs text
IsPrintedAs Khronos o file None xs text = text ≡ line (compact_text (unread_data file o.most xs))
IsPrintedAs Khronos o file (Some r) xs text = IsReportOf file r o.most xs text

abbrev pub IsPrintedFor : FindingOptions → File → Option Root → List Shown → List ℕ → Type 0
IsPrintedFor o file root xs text = IsPrintedAs o.style o file root xs text

-- why a file is refused: it holds no document, and no finding of severity error says so
abbrev pub refusal_of : FileFindings → Option Unread
refusal_of f = if f.counts.errors == 0 then f.unread else None

-- what is wrong with a document: by itself, and by the URIs of its buffers and images
pub record AreDocumentFindings (r : Root) (c : Container) (all : List Finding) : Type 0 where
  pub own : List Finding
  pub are_of : AreFindings r own
  pub each : all ≡ own ++ findings_from (buffer_findings c) 0 r.buffers.items ++ findings_from (image_findings c) 0 r.images.items

-- what is printed and counted for findings, by the choices of the caller
pub record IsPrinted (o : FindingOptions) (file : File) (all : List Located) (root : Option Root) (unread : Option Unread) (found : FileFindings) : Type 0 where
  pub findings : List FileFinding
  pub are_at : map located findings ≡ all
  pub lines : IsPrintedFor o file root (chosen o.choices findings) (string_bytes found.lines)
  pub counts : found.counts ≡ counts_of (chosen o.choices findings)
  pub reason : found.unread ≡ unread

-- a JSON text is this document with these findings, or none for this reason
abbrev pub IsDocument : Answer → Container → Option Root → List Finding → Option Unread → Type 0
IsDocument due c (Some r) all None = (due ≡ document (root_tree r)) × AreDocumentFindings r c all
IsDocument due c None all (Some NoJson) = (due ≡ no_json) × (all ≡ [])
IsDocument due c None all (Some NoDocument) = (due ≡ no_document) × (all ≡ [])
IsDocument due c _ all _ = ⊥

-- what is printed and counted for a file by its JSON
pub record IsFoundIn (o : FindingOptions) (file : File) (s : Sources) (parts : FileParts) (found : FileFindings) : Type 0 where
  pub root : Option Root
  pub findings : List Finding
  pub unread : Option Unread
  pub is_document : IsDocument (answer parts.0) parts.1 root findings unread
  pub printed : IsPrinted o file (all_located s.container.now (map noted s.members.now) findings) root unread found

-- what is wrong with the members of bytes that should be JSON
pub record AreMembers (o : Outline) (bytes : List ℕ) (members : List Noted) : Type 0 where
  pub text : IsUtf8 bytes → members ≡ value_members o (read_json bytes)
  pub no_text : ¬ (IsUtf8 bytes) → members ≡ []

-- what is printed and counted for a file whose container was read, or not
pub record IsFoundOf (outline : Outline) (o : FindingOptions) (file : File) (parts : FileParts) (found : FileFindings) : Type 0 where
  pub members : List Noted
  pub are_members : AreMembers outline parts.0 members
  pub root : Option Root
  pub findings : List Finding
  pub unread : Option Unread
  pub is_document : IsDocument (answer parts.0) parts.1 root findings unread
  pub printed : IsPrinted o file (all_located (container_findings file) members findings) root unread found

abbrev pub IsFoundBy : Outline → FindingOptions → File → Result FileParts GlbError → FileFindings → Type 0
IsFoundBy outline o file (Ok parts) found = IsFoundOf outline o file parts found
IsFoundBy outline o file (Err e) found = IsPrinted o file (all_located (container_findings file) [] []) None (Some (NoContainer e)) found

-- what is printed and counted for a file
abbrev pub IsFound : Outline → FindingOptions → File → FileFindings → Type 0
IsFound outline o file found = IsFoundBy outline o file (file_parts file) found

-- all findings of a file are printed as lines of JSON, by the validator's severities
pub record IsJsonOf (file : File) (found : FileFindings) : Type 0 where
  pub outline : Outline
  pub is_outline : IsShapeOf outline.nodes.items outline.root root_kind
  pub options : FindingOptions
  pub style : options.style ≡ Lines Json
  pub positions : options.positions_up_to ≡ 2 ^ 64 - 1
  pub most : options.most ≡ 2 ^ 64 - 1
  pub severities : options.choices.severities.now ≡ []
  pub ignored : options.choices.ignored.now ≡ []
  pub each : IsFound outline options file found
