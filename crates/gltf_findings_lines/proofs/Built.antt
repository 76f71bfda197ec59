-- How the parts of what is found are put together.
use Rattle.std.proofs.Common.{◌≡◌, ◌-◌, ◌^◌, List, [], map, Some, None, Ok, sym, subst}
use Rattle.gltf_root.specs.Answer.{answer, document}
use Rattle.gltf_root.specs.Root.{root_kind, root_tree}
use Rattle.gltf_root.specs.declared.root.Root.{Root}
use Rattle.gltf_schema.specs.Outline.{IsShapeOf}
use Rattle.gltf_schema.specs.declared.outline.Outline.{Outline}
use Rattle.gltf_report_lines.specs.declared.format.LineFormat.TheVariants.{Json}
use Rattle.gltf_findings_codes.specs.declared.finding.Finding.{Finding}
use Rattle.gltf_findings_files.specs.declared.finding.GlbFinding.{GlbFinding}
use Rattle.gltf_findings_members.specs.Noted.{Noted, noted}
use Rattle.gltf_findings_lines.specs.Checked.{AreDocumentFindings, AreMembers, IsFound, IsFoundBy, IsFoundIn, IsJsonOf, IsPrinted}
use Rattle.gltf_findings_lines.specs.Parts.{FileParts, container_findings, file_parts}
use Rattle.gltf_findings_lines.specs.Sources.{all_located}
use Rattle.gltf_findings_lines.specs.declared.check.FileFindings.{FileFindings}
use Rattle.gltf_findings_lines.specs.declared.file.File.{File}
use Rattle.gltf_findings_lines.specs.declared.options.FindingOptions.{FindingOptions}
use Rattle.gltf_findings_lines.specs.declared.options.Style.TheVariants.{Lines}
use Rattle.gltf_findings_lines.specs.declared.sources.Sources.{Sources}

module _ {o : FindingOptions} {file : File} {s : Sources} {parts : FileParts} {found : FileFindings} where
  -- by a document
  pub document_found : (r : Root) (all : List Finding) → answer parts.0 ≡ document (root_tree r) → AreDocumentFindings r parts.1 all
      → IsPrinted o file (all_located s.container.now (map noted s.members.now) all) (Some r) None found → IsFoundIn o file s parts found
  document_found r all due are printed = record { root = Some r; findings = all; unread = None; is_document = (due, are); printed = printed }

  -- by the parts of a file
  pub parts_found : (outline : Outline) (ms : List Noted) → file_parts file ≡ Ok parts → s.container.now ≡ container_findings file
      → map noted s.members.now ≡ ms → AreMembers outline parts.0 ms → IsFoundIn o file s parts found → IsFound outline o file found
  parts_found outline ms read container members are h =
      let with_container : (xs : List GlbFinding) → Type 0 = λ (xs : List GlbFinding). IsPrinted o file (all_located xs (map noted s.members.now) h.findings) h.root h.unread found in
      let with_members : (xs : List Noted) → Type 0 = λ (xs : List Noted). IsPrinted o file (all_located (container_findings file) xs h.findings) h.root h.unread found in
      subst (λ r. IsFoundBy outline o file r found) (sym read) (record {
        members = ms;
        are_members = are;
        root = h.root;
        findings = h.findings;
        unread = h.unread;
        is_document = h.is_document;
        printed = subst with_members members (subst with_container container h.printed);
      })

-- by choices that let all pass
pub json_found : (outline : Outline) (o : FindingOptions) {file : File} {found : FileFindings} → IsFound outline o file found → IsShapeOf outline.nodes.items outline.root root_kind
    → o.style ≡ Lines Json → o.positions_up_to ≡ 2 ^ 64 - 1 → o.most ≡ 2 ^ 64 - 1 → o.choices.severities.now ≡ [] → o.choices.ignored.now ≡ [] → IsJsonOf file found
json_found outline o h shape style positions most severities ignored = record {
  outline = outline;
  is_outline = shape;
  options = o;
  style = style;
  positions = positions;
  most = most;
  severities = severities;
  ignored = ignored;
  each = h;
}
