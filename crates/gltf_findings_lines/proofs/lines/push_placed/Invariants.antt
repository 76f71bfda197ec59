use Rattle.std.proofs.Common.{◌≡◌, ◌++◌, drop, string_bytes}
use Rattle.gltf_findings_lines.specs.FindingLines.{placed_lines}
use Rattle.gltf_findings_lines.proofs.lines.push_placed.Given as goal

-- the lines of the findings that are left give all lines
abbrev pub invariant-loop-one : goal.invariant-loop-one
invariant-loop-one l = string_bytes l.lines ++ placed_lines l.format l.file (drop l.one-index l.placed)
    ≡ string_bytes l.fn.lines ++ placed_lines l.format l.file l.placed
