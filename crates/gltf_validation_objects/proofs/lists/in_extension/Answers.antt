-- What was found is a leaf behind the name.
use Rattle.std.proofs.Common.{◌≡◌, ◌∙◌, ap, rules, string_bytes}
use Rattle.gltf_base.specs.Steps.{value}
use Rattle.gltf_schema.specs.Tree.{text}
use Rattle.gltf_validation_rules.specs.Context.{Context, context_of}
use Rattle.gltf_validation_rules.specs.Rules.{extension_faults}
use Rattle.gltf_validation_objects.specs.Checklist.{Checklist, down}
use Rattle.gltf_validation_objects.specs.ChecklistOf.{leaf_of}
use Rattle.gltf_validation_objects.proofs.Leaves.{found_leaf}
use Rattle.gltf_validation_objects.proofs.lists.in_extension.Goals as goal

pub returns-in-0-clause-comes : goal.returns-in-0-clause-comes
returns-in-0-clause-comes g c =
    let s = string_bytes c.args.name.now in
    let here : c.deref.result.now ≡ s = search rules in
    let e : c.deref-in-0.result.now ≡ s = search rules in
    let enabled = (context_of c.context.result).rules.enabled in
    let at_name : Context → Checklist = λ context. leaf_of (extension_faults context.rules.enabled (text s)) in
    let found = found_leaf (extension_faults enabled (text s)) _ (value s) (rw e at c.extension_fault.ensures) in
    rw (c.in-0.is, here) (ap (down (value s)) (found ∙ ap at_name c.context.ensures))
