-- An attribute whose key or index isn't quiet decides; past the last one all were quiet.
use Rattle.std.proofs.Common.{◌≡◌, ◌∷◌, ◌∙◌, map, true, false, rules, refl, sym, ap}
use Rattle.std.proofs.Math.Bool.{and-false}
use Rattle.std.specs.Option.{is_none, is_some}
use Rattle.gltf_base.specs.Lists.{ListName}
use Rattle.gltf_schema.specs.Fields.{entry_of}
use Rattle.gltf_root.specs.Lists.{count_in}
use Rattle.gltf_validation_rules.specs.Faults.{key_faults}
use Rattle.gltf_validation_objects.specs.ChecklistOf.{fault_of_reports}
use Rattle.gltf_validation_objects.proofs.Leaves.{found_key}
use Rattle.gltf_validation_objects.proofs.QuietChecklists.{entry_first, fault_there}
use Rattle.gltf_validation_objects.proofs.quiet.BTreeMapCheckedSemanticIndexAccessorQuiet.is_quiet.Goals as goal
use Rattle.gltf_validation_objects.proofs.quiet.BTreeMapCheckedSemanticIndexAccessorQuiet.is_quiet.Goals.{then-is_some-via-then-is_some, then-is_some-via-else-is_some+then-not-is_quiet}

pub loop-semantic-preserved : goal.loop-semantic-preserved
loop-semantic-preserved g c =
    let count = count_in ListName.accessors (g.C.HasContext.context c.args.context.now).root in
    let key = c.in-Some.semantic.now in
    let e = entry_of (key, c.in-Some.index.now) in
    let rest = map entry_of c.next.new.self in
    let here : map entry_of c.loop-semantic.semantic-iterator ≡ e ∷ rest = search rules in
    let found : is_none c.choice_fault.result ≡ true = search rules in
    let yes : c.is_quiet.result ≡ true = search rules in
    let no_key : is_none (fault_of_reports (key_faults e.0)) ≡ true = ap is_none (sym (found_key key _ c.choice_fault.ensures)) ∙ found in
    entry_first count _ e rest true here (rw (no_key, sym c.is_quiet.ensures ∙ yes) refl) ∙ c.loop-semantic.invariant

pub returns-then-is_some : goal.returns-then-is_some
returns-then-is_some g c =
    let count = count_in ListName.accessors (g.C.HasContext.context c.args.context.now).root in
    let key = c.in-Some.semantic.now in
    let e = entry_of (key, c.in-Some.index.now) in
    let rest = map entry_of c.next.new.self in
    let here : map entry_of c.loop-semantic.semantic-iterator ≡ e ∷ rest = search rules in
    elim c.then-is_some.branch [
      | then-is_some-via-then-is_some w ↦
          (let found : is_some c.choice_fault.result ≡ true = search rules in
          let in_key : is_none (fault_of_reports (key_faults e.0)) ≡ false = ap is_none (sym (found_key key _ c.choice_fault.ensures)) ∙ fault_there _ found in
          entry_first count _ e rest false here (rw in_key refl) ∙ c.loop-semantic.invariant)
      | then-is_some-via-else-is_some+then-not-is_quiet w ↦
          (let no : w.is_quiet.result ≡ false = search rules in
          entry_first count _ e rest false here (rw (sym w.is_quiet.ensures ∙ no) (and-false _)) ∙ c.loop-semantic.invariant)
    ]
