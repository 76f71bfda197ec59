-- The entry comes, and those behind it are left.
use Rattle.std.proofs.Common.{refl}
use Rattle.gltf_base.specs.Indexes.{index_number}
use Rattle.gltf_base.specs.Lists.{ListName}
use Rattle.gltf_root.specs.Lists.{count_in}
use Rattle.gltf_validation_rules.specs.Faults.{number_faults}
use Rattle.gltf_validation_rules.specs.Context.{context_of}
use Rattle.gltf_validation_objects.proofs.Leaves.{found_fault, found_key}
use Rattle.gltf_validation_walk.proofs.attributes.next_attribute.Goals as goal

pub returns-in-Some-clause-comes : goal.returns-in-Some-clause-comes
returns-in-Some-clause-comes c =
    let count = count_in ListName.accessors (context_of c.args.context.now).root in
    rw (
      c.in-Some.ensures,
      c.key_step.ensures,
      found_key c.in-Some.semantic.now _ c.choice_fault.ensures,
      found_fault (number_faults count (index_number c.in-Some.index.now)) _ c.index_fault.ensures,
    )
    refl

pub returns-in-Some-clause-rest : goal.returns-in-Some-clause-rest
returns-in-Some-clause-rest c more = rw c.in-Some.ensures refl
