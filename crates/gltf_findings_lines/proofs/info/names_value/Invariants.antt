use Rattle.std.proofs.Common.{◌≡◌, ◌++◌, drop, map, string_bytes}
use Rattle.serde_json.specs.Data.{string}
use Rattle.serde_json.specs.View.{view}
use Rattle.gltf_findings_lines.proofs.info.names_value.Given as goal

-- the names that are left give all texts
abbrev pub invariant-loop-name : goal.invariant-loop-name
invariant-loop-name l = map view l.values.items ++ map (λ name. string (string_bytes name)) (drop l.name-index l.names)
    ≡ map (λ name. string (string_bytes name)) l.names
