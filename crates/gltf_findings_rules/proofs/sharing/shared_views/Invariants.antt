-- The accessors that are left mark all views.
use Rattle.std.proofs.Common.{◌≡◌, drop, replicate, false}
use Rattle.gltf_findings_rules.specs.Sharing.{shared_views}
use Rattle.gltf_findings_rules.proofs.sharing.shared_views.Given as goal

abbrev pub invariant-loop-number : goal.invariant-loop-number
invariant-loop-number l = shared_views l.chosen l.number (drop l.number l.accessors) l.once.items l.twice.items ≡ shared_views l.chosen 0 l.accessors (replicate l.count false) (replicate l.count false)
