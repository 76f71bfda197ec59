-- An item is looked at where it stands, at the end of its list, and is taken back where it has a report.
use Rattle.std.proofs.Common.{◌≡◌, ◌-◌, ◌^◌, ◌≤◌, ◌<◌, ◌↔◌, length, None, Err, sym, ◌∙◌, ap, subst}
use Rattle.std.specs.List.{last_or}
use Rattle.gltf_base.specs.Pushes.{IsHandedBack}
use Rattle.gltf_base.specs.declared.index.PushError.TheVariants.{Full}
use Rattle.gltf_root.specs.Lists.{count_in}
use Rattle.gltf_root.specs.Pushed.{item_place, pushed}
use Rattle.gltf_root.specs.Root.{root_tree}
use Rattle.gltf_root.specs.Undone.{undone}
use Rattle.gltf_root.proofs.TakenBack.{taken_back}
use Rattle.gltf_root.proofs.Undoing.{last_or_pop}
use Rattle.gltf_validation_rules.specs.Context.{rules_of}
use Rattle.gltf_validation_rules.proofs.Resolving.{count_in-items}
use Rattle.gltf_validation.proofs.Pushing.{all_of_item, faulty_pushed, none_of_pushed, room_where_made, room_without_memory, told_of_pushed}
use Rattle.gltf_validation.proofs.push.push_checked.Goals as goal

pub returns-in-None-clause-pushed : goal.returns-in-None-clause-pushed
returns-in-None-clause-pushed g c =
    let named = g.T.Listed.list in
    let old = c.args.root.now in
    let xs = g.T.RootItem.items old in
    let x = g.T.RootItem.tree c.args.item in
    let count = count_in-items named (root_tree old) g.T.RootItem.tree xs (g.met.T.RootItem.tree_lists_items old) in
    let left = c.in-Ok.ensures.pushed in
    let told = c.fault_of_last.ensures xs c.args.item (item_place named (count_in named (root_tree old))) c.in-Ok.ensures.appended in (
      subst (λ n. n < 2 ^ 32 - 1) (sym count) (room_where_made _ _ _ c.in-Ok.ensures.full),
      none_of_pushed (rules_of c.args.rules.now) named x (root_tree old) (root_tree c.push_onto.new.root) c.fault_of_last.result left.1 told c.in-None.is,
      left.0 ∙ sym count,
      left.1,
    )

pub faulty-requires-clause-faulty : goal.faulty-requires-clause-faulty
faulty-requires-clause-faulty g c =
    let named = g.T.Listed.list in
    let old = c.args.root.now in
    let x = g.T.RootItem.tree c.args.item in
    let by = rules_of c.args.rules.now in
    let new = root_tree c.push_onto.new.root in
    let left = c.in-Ok.ensures.pushed in
    let told = c.fault_of_last.ensures (g.T.RootItem.items old) c.args.item (item_place named (count_in named (root_tree old))) c.in-Ok.ensures.appended in
    faulty_pushed by named x old new _ c.requires.clean left.1 (told_of_pushed by named x (root_tree old) new c.fault_of_last.result left.1 told ∙ c.in-Some.is)

pub returns-in-Some-clause-refused : goal.returns-in-Some-clause-refused
returns-in-Some-clause-refused g c =
    let named = g.T.Listed.list in
    let old = c.args.root.now in
    let xs = g.T.RootItem.items old in
    let x = g.T.RootItem.tree c.args.item in
    let by = rules_of c.args.rules.now in
    let new = root_tree c.push_onto.new.root in
    let count = count_in-items named (root_tree old) g.T.RootItem.tree xs (g.met.T.RootItem.tree_lists_items old) in
    let left = c.in-Ok.ensures.pushed in
    let told = c.fault_of_last.ensures xs c.args.item (item_place named (count_in named (root_tree old))) c.in-Ok.ensures.appended in
    c.faulty.ensures.refused c.args.item (root_tree old) (
      ap (last_or None) c.in-Ok.ensures.appended ∙ last_or_pop None xs c.args.item,
      subst (λ n. n < 2 ^ 32 - 1) (sym count) (room_where_made _ _ _ c.in-Ok.ensures.full),
      told_of_pushed by named x (root_tree old) new c.fault_of_last.result left.1 told ∙ c.in-Some.is,
      all_of_item by named x old new c.requires.clean left.1,
    )

pub returns-in-Some-clause-unchanged : goal.returns-in-Some-clause-unchanged
returns-in-Some-clause-unchanged g c =
    let named = g.T.Listed.list in
    let old = c.args.root.now in
    let x = g.T.RootItem.tree c.args.item in
    c.faulty.ensures.document ∙ ap (undone named c.args.mark) c.in-Ok.ensures.pushed.1 ∙ ap (λ m. undone named m (pushed named x (root_tree old))) c.requires.mark ∙ taken_back old named x

pub returns-in-Err-Full-clause-refused : goal.returns-in-Err-Full-clause-refused
returns-in-Err-Full-clause-refused g c =
    let named = g.T.Listed.list in
    let old = c.args.root.now in
    let count = count_in-items named (root_tree old) g.T.RootItem.tree (g.T.RootItem.items old) (g.met.T.RootItem.tree_lists_items old) in
    let is = c.in-Err-Full.field-0-is in
    let back = subst (IsHandedBack c.args.item) is c.in-Err-Full.ensures.handed_back in
    let full = subst (λ n. 2 ^ 32 - 1 ≤ n) (sym count) (c.in-Err-Full.ensures.full.0 (ap Err is ∙ ap (λ x. Err (Full x)) back)) in
    subst (λ item. g.R.NotPushed.refuses (rules_of c.args.rules.now) item (root_tree old) c.full.result) back (rw is at (c.full.ensures (rules_of c.args.rules.now) (root_tree old) full))

pub returns-in-Err-Memory-clause-refused : goal.returns-in-Err-Memory-clause-refused
returns-in-Err-Memory-clause-refused g c =
    let named = g.T.Listed.list in
    let old = c.args.root.now in
    let count = count_in-items named (root_tree old) g.T.RootItem.tree (g.T.RootItem.items old) (g.met.T.RootItem.tree_lists_items old) in
    let is = c.in-Err-Memory.field-0-is in
    let back = subst (IsHandedBack c.args.item) is c.in-Err-Memory.ensures.handed_back in
    let full = subst (λ e. (Err e ≡ Err (Full c.args.item)) ↔ (2 ^ 32 - 1 ≤ length (g.T.RootItem.items old))) is c.in-Err-Memory.ensures.full in
    let room = subst (λ n. n < 2 ^ 32 - 1) (sym count) (room_without_memory _ _ _ full) in
    subst (λ item. g.R.NotPushed.refuses (rules_of c.args.rules.now) item (root_tree old) c.memory.result) back (rw is at (c.memory.ensures (rules_of c.args.rules.now) (root_tree old) room))
