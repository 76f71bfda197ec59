-- A value that is not attributes is gone through by numbers.
use Rattle.std.proofs.Common.{rules, ◌∙◌}
use Rattle.gltf_validation_rules.specs.Context.{context_of}
use Rattle.gltf_validation_objects.specs.ValueRefs.{IsNumbered}
use Rattle.gltf_validation_walk.proofs.Moves.{numbered_first, numbered_more}
use Rattle.gltf_validation_walk.proofs.frame.next_event.Goals as goal

pub returns-in_default-event : goal.returns-in_default-event
returns-in_default-event c =
    let context = context_of c.args.context.now in
    let f = c.args.frame.now in
    let numbered : IsNumbered f.value = search rules in
    record {
      comes = c.event.ensures.comes ∙ numbered_first context f.value f.number f.behind numbered;
      rest = λ more. numbered_more context f.value f.number f.behind numbered;
    }
