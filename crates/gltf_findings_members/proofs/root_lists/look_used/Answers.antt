-- A list by its texts.
use Rattle.std.proofs.Common.{◌≡◌, ◌∷◌, Some, option_map, sym, ap, ◌∙◌, subst, arith}
use Rattle.std.specs.Prelude.{slice_get}
use Rattle.json.specs.Token.{Token}
use Rattle.json.specs.Json as tree
use Rattle.json.specs.Json.{parse_map, value}
use Rattle.json.proofs.Grammar.{value-begin_array}
use Rattle.gltf_schema.specs.declared.outline.Shape.TheVariants.{Text, List as ListOf}
use Rattle.gltf_findings_members.specs.Look.{format_with}
use Rattle.gltf_findings_members.specs.Quiet.{IsQuiet}
use Rattle.gltf_findings_members.proofs.Named.{row_quiet}
use Rattle.gltf_findings_members.proofs.Listing.{are_used, quiet_texts}
use Rattle.gltf_findings_members.proofs.root_lists.look_used.Goals as goal

pub returns-in_ok-texts-in-BeginArray : goal.returns-in_ok-texts-in-BeginArray
returns-in_ok-texts-in-BeginArray c =
    let depth = c.args.depth in
    let nodes = c.args.table.now.nodes.now in
    let m = c.in_ok-row.row.now in
    let i = c.in-Some-List.item in
    let texts = c.in_ok-texts-in-BeginArray.texts in
    let row : option_map (λ m. m.now) c.args.row ≡ Some m = grind arith in
    let here : c.args.reader.now ≡ Token.begin_array ∷ c.next.new.self = grind arith in
    let shape : slice_get nodes m.value ≡ Some (ListOf i) = grind arith in
    let item : slice_get nodes i ≡ Some Text = grind arith in
    let js = c.in_ok-texts-in-BeginArray.ensures in (
      m,
      row,
      tree.array js.0,
      ap (value depth) here ∙ value-begin_array depth c.next.new.self c.if-depth-gt0.true ∙ ap (parse_map tree.array) js.1,
      are_used texts js.0 js.2,
      λ uses covers.
          let f = format_with c.args.table.now uses in
          row_quiet f m (tree.array js.0) (subst (λ s. IsQuiet f s (tree.array js.0)) (sym shape) (quiet_texts f i texts js.0 item js.2)),
    )
