-- The reports that the walk begins with are those of the value.
use Rattle.std.proofs.Common.{refl, arith, ◌+◌, ◌≤◌, length}
use Rattle.gltf_base.specs.Steps.{steps_of}
use Rattle.gltf_root.specs.Root.{root_tree}
use Rattle.gltf_validation_rules.specs.Context.{rules_of}
use Rattle.gltf_validation_rules.specs.Reports.{reports_by_rules}
use Rattle.gltf_validation_rules.proofs.Walks.{handed-wider}
use Rattle.gltf_validation_walk.specs.ToCome.{depth_in}
use Rattle.gltf_validation.proofs.validation.table.AnyValidate.validate_with.Goals as goal

pub new-requires : goal.new-requires
new-requires g c = omega (arith, g.met.T.SchemaType.depth_bounds_kind.0, g.met.T.SchemaType.depth_bounds_kind.1)

pub returns-clause-walked : goal.returns-clause-walked
returns-clause-walked g c =
    let s = g.S.Sink in
    let at = length (steps_of c.args.path.now) in
    let handed = rw (c.new.ensures.reports, c.new.ensures.base) at c.hand_over.ensures in
    let wide : at + depth_in c.new.result ≤ at + g.T.SchemaType.depth = omega (arith, c.new.ensures.depth, g.met.T.SchemaType.depth_bounds_kind.0) in
    let told = reports_by_rules (rules_of c.args.rules.now) g.T.Visitable.kind (g.T.Visitable.tree c.args.self.now) (root_tree c.args.root.now) (steps_of c.args.path.now) in
    record { same = refl; handed = handed-wider s.next s.refuses (s.state c.args.sink.now) (s.state c.hand_over.new.sink) told _ _ _ wide handed }
