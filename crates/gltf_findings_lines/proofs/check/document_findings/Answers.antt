-- The findings of the document itself come first.
use Rattle.std.proofs.Common.{◌∙◌, ◌++◌, ap}
use Rattle.gltf_findings_codes.specs.Found.{findings_from}
use Rattle.gltf_findings_files.specs.Objects.{buffer_findings, image_findings}
use Rattle.gltf_findings_lines.proofs.check.document_findings.Goals as goal

pub returns : goal.returns
returns c =
    let uris = findings_from (buffer_findings c.args.container) 0 c.args.root.now.buffers.items in
    let media = findings_from (image_findings c.args.container) 0 c.args.root.now.images.items in
    record {
      own = c.in_ok-findings.findings.found.items;
      are_of = c.in_ok-findings.ensures;
      each = c.in_ok-add_uris.ensures ∙ ap (λ l. l ++ uris ++ media) (c.in_ok-all.ensures.items ∙ c.as_slice.ensures);
    }
