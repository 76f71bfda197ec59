-- The accessors that are left mark all views.
use Rattle.std.proofs.Common.{◌≡◌, drop, replicate, false}
use Rattle.gltf_findings_rules.specs.Sharing.{views_of}
use Rattle.gltf_findings_rules.proofs.sharing.views_of.Given as goal

abbrev pub invariant-loop-number : goal.invariant-loop-number
invariant-loop-number l = views_of l.chosen l.number (drop l.number l.accessors) l.marks.items ≡ views_of l.chosen 0 l.accessors (replicate l.count false)
