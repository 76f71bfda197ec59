-- An extension object that no object of the table has.
use Rattle.std.proofs.Common.{◌≡◌, ◌∷◌, Some, None, sym, ap, ◌∙◌, arith}
use Rattle.std.specs.Prelude.{if◌then◌else◌}
use Rattle.json.specs.Json as tree
use Rattle.json.specs.Json.{value}
use Rattle.json.specs.Reads.{token_of}
use Rattle.gltf_findings_codes.specs.declared.code.Code.TheVariants.{UnexpectedExtensionObject}
use Rattle.gltf_findings_members.specs.Format.{unknown_extension_code}
use Rattle.gltf_findings_members.specs.Look.{format_with}
use Rattle.gltf_findings_members.proofs.NoneNoted.{object_reads}
use Rattle.gltf_findings_members.proofs.Passing.{is_not}
use Rattle.gltf_findings_members.proofs.listed.look_unknown.Goals as goal

pub returns : goal.returns
returns c =
    let here : c.args.reader.now ≡ token_of c.in_ok-token.token ∷ c.next.new.self = grind arith in
    let js = c.in_ok-skip_object.ensures in (
      tree.object js.0,
      ap (value c.args.depth) here ∙ js.1,
      λ yes uses covers.
          let unknown = sym c.knows.ensures ∙ is_not c.knows.result yes in
          object_reads js.0 (λ d. unknown_extension_code (format_with c.args.table.now uses) c.args.name.now d ≡ None) (λ ms e. ap (λ b. if b then Some UnexpectedExtensionObject else None) unknown),
    )
