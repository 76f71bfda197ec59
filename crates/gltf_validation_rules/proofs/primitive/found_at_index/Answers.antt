-- The accessor that the index names, or none.
use Rattle.std.proofs.Common.{Some, None, sym, ◌∙◌, ap}
use Rattle.gltf_base.specs.Indexes.{index_number}
use Rattle.gltf_validation_rules.specs.Rules.{bounds_faults}
use Rattle.gltf_validation_rules.proofs.Primitives.{accessor_at}
use Rattle.gltf_validation_rules.proofs.primitive.found_at_index.Goals as goal

pub returns-in-Some : goal.returns-in-Some
returns-in-Some c =
    let named = accessor_at c.args.root.now (index_number c.args.index) (Some c.in-Some.accessor.now) c.in-Some.ensures in
    λ base. c.found_in_bounds.ensures base ∙ ap (λ t. bounds_faults t base) (sym named)

pub returns-in-None : goal.returns-in-None
returns-in-None c =
    let named = accessor_at c.args.root.now (index_number c.args.index) None c.in-None.ensures in
    λ base. ap (λ t. bounds_faults t base) (sym named)
