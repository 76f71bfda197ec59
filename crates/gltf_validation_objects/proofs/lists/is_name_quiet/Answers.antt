-- What was found decides.
use Rattle.std.proofs.Common.{◌≡◌, ◌∙◌, ap, sym, rules, string_bytes}
use Rattle.std.proofs.Math.Bool.{and-true}
use Rattle.std.specs.Option.{is_none}
use Rattle.gltf_base.specs.Steps.{value}
use Rattle.gltf_schema.specs.Tree.{text}
use Rattle.gltf_validation_rules.specs.Context.{Context, context_of}
use Rattle.gltf_validation_rules.specs.Rules.{extension_faults}
use Rattle.gltf_validation_objects.specs.Checklist.{Checklist, quiet}
use Rattle.gltf_validation_objects.specs.ChecklistOf.{leaf_of}
use Rattle.gltf_validation_objects.proofs.Leaves.{found_leaf}
use Rattle.gltf_validation_objects.proofs.QuietChecklists.{quiet_leaf}
use Rattle.gltf_validation_objects.proofs.lists.is_name_quiet.Goals as goal

pub returns : goal.returns
returns g c =
    let s = string_bytes c.args.name.now in
    let e : c.deref.result.now ≡ s = search rules in
    let at_name : Context → Checklist = λ context. leaf_of (extension_faults context.rules.enabled (text s)) in
    let found = found_leaf (extension_faults (context_of c.context.result).rules.enabled (text s)) _ (value s) (rw e at c.extension_fault.ensures) in
    let none : c.is_none.result ≡ is_none c.extension_fault.result = search rules in
    none ∙ (quiet_leaf _ ∙ (ap quiet (found ∙ ap at_name c.context.ensures) ∙ sym (and-true (quiet (at_name (g.C.HasContext.context c.args.context.now))))))
