-- The indexes that are left mark all.
use Rattle.std.proofs.Common.{◌≡◌, drop, map}
use Rattle.gltf_base.specs.Indexes.{index_number}
use Rattle.gltf_findings_codes.specs.Marks.{mark_all}
use Rattle.gltf_findings_codes.proofs.marks.mark_all.Given as goal

abbrev pub invariant-loop-index : goal.invariant-loop-index
invariant-loop-index g l = mark_all l.marks.items (map index_number (drop l.index-index l.indexes)) ≡ mark_all l.fn.marks.items (map index_number l.indexes)
