use Rattle.std.proofs.Common.{◌≡◌, drop}
use Rattle.gltf_findings_lines.specs.Counted.{counted_from, counts_of}
use Rattle.gltf_findings_lines.proofs.counts.Counts.of.Given as goal

-- counting the findings that are left gives all counts
abbrev pub invariant-loop-one : goal.invariant-loop-one
invariant-loop-one l = counted_from l.counts (drop l.one-index l.shown) ≡ counts_of l.shown
