-- The accessors that are left mark all views.
use Rattle.std.proofs.Common.{◌≡◌, drop, replicate, false}
use Rattle.gltf_findings_rules.specs.Sharing.{views_of, shared_views}
use Rattle.gltf_findings_rules.proofs.sharing.view_uses.Given as goal

abbrev pub invariant-loop-number : goal.invariant-loop-number
invariant-loop-number l = record {
  attributes : views_of l.attributes l.number (drop l.number l.accessors) l.once.items ≡ views_of l.attributes 0 l.accessors (replicate l.count false);
  indices : views_of l.indices l.number (drop l.number l.accessors) l.others.items ≡ views_of l.indices 0 l.accessors (replicate l.count false);
  shared : shared_views l.attributes l.number (drop l.number l.accessors) l.once.items l.twice.items ≡ shared_views l.attributes 0 l.accessors (replicate l.count false) (replicate l.count false);
}
