use Rattle.std.proofs.Common.{◌≡◌}
use Rattle.gltf_corpus_files.proofs.elements.accessor.lines_of.Given as goal

abbrev pub invariant-loop-index : goal.invariant-loop-index
invariant-loop-index g l = l.index-end ≡ l.accessor.count
