-- The chunks from the offset on give the findings that are missing.
use Rattle.std.proofs.Common.{◌-◌, ◌++◌, length}
use Rattle.gltf_findings_files.specs.Chunks.{start}
use Rattle.gltf_findings_files.specs.Findings.{chunk_findings}
use Rattle.gltf_findings_files.proofs.Turns.{AreLeft}
use Rattle.gltf_findings_files.proofs.findings.add_chunks.Given as goal

abbrev pub decreases-loop-before : goal.decreases-loop-before
decreases-loop-before l = length l.bytes - l.offset

abbrev pub invariant-loop-before : goal.invariant-loop-before
invariant-loop-before l = AreLeft l.to.items (l.fn.to.items ++ chunk_findings (length l.bytes) l.lengths l.bytes start 12) l.lengths l.bytes l.before l.offset
