-- An object that is passed by its members.
use Rattle.std.proofs.Common.{◌∷◌, ap, ◌∙◌}
use Rattle.json.specs.Json as tree
use Rattle.json.specs.Json.{parse_map, value}
use Rattle.json.specs.Reads.{token_of}
use Rattle.json.proofs.Grammar.{value-begin_object}
use Rattle.gltf_findings_members.proofs.listed.skip_object.Goals as goal

pub returns-in_ok-skip_members-in-BeginObject : goal.returns-in_ok-skip_members-in-BeginObject
returns-in_ok-skip_members-in-BeginObject c =
    let depth = c.args.depth in
    let opened = ap (λ k. value depth (token_of k ∷ c.args.reader.now)) c.in-BeginObject.is ∙ value-begin_object depth c.args.reader.now c.if-depth-gt0.true in
    let js = c.in_ok-skip_members-in-BeginObject.ensures in
    (js.0, opened ∙ ap (parse_map tree.object) js.1)
