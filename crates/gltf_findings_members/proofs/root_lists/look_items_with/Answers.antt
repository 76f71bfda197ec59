-- A list by its items.
use Rattle.std.proofs.Common.{◌≡◌, ◌∷◌, Some, option_map, refl, sym, ap, ◌∙◌, subst, arith}
use Rattle.std.specs.Prelude.{slice_get}
use Rattle.json.specs.Token.{Token}
use Rattle.json.specs.Json as tree
use Rattle.json.specs.Json.{parse_map, value}
use Rattle.json.proofs.Grammar.{value-begin_array}
use Rattle.gltf_schema.specs.declared.outline.Shape.TheVariants.{List as ListOf}
use Rattle.gltf_findings_members.specs.Look.{format_with}
use Rattle.gltf_findings_members.specs.Quiet.{AreQuietItems, HaveNoRepeats, IsQuiet}
use Rattle.gltf_findings_members.proofs.Filled.{not_empty}
use Rattle.gltf_findings_members.proofs.Named.{row_quiet}
use Rattle.gltf_findings_members.proofs.NoneInValues.{quiet_list}
use Rattle.gltf_findings_members.proofs.root_lists.look_items_with.Goals as goal

pub returns-in_ok-quiet-in-BeginArray : goal.returns-in_ok-quiet-in-BeginArray
returns-in_ok-quiet-in-BeginArray c =
    let depth = c.args.depth in
    let m = c.in_ok-row.row.now in
    let i = c.in-Some-List.item in
    let row : option_map (λ m. m.now) c.args.row ≡ Some m = grind arith in
    let here : c.args.reader.now ≡ Token.begin_array ∷ c.next.new.self = grind arith in
    let shape : slice_get c.args.table.now.nodes.now m.value ≡ Some (ListOf i) = grind arith in
    let js = c.in_ok-quiet-in-BeginArray.ensures in (
      m,
      row,
      (
        tree.array js.0,
        ap (value depth) here ∙ value-begin_array depth c.next.new.self c.if-depth-gt0.true ∙ ap (parse_map tree.array) js.1,
        λ yes.
            let quiet = js.2 yes in (
              λ uses covers.
                  let f = format_with c.args.table.now uses in
                  let items = subst (λ s. AreQuietItems f s js.0) c.shape-in-BeginArray.ensures (quiet.2.0 uses covers) in
                  let new = subst (λ s. HaveNoRepeats s js.0) c.shape-in-BeginArray.ensures quiet.1 in
                  row_quiet f m (tree.array js.0) (subst (λ s. IsQuiet f s (tree.array js.0)) (sym shape) (quiet_list f i js.0 (λ ds read. not_empty js.0 ds quiet.0 read) items new)),
              (js.0, refl, quiet.2.1),
            ),
      ),
    )
