use Rattle.std.proofs.Common.{◌≡◌, ◌++◌, drop, map}
use Rattle.serde_json.specs.View.{view}
use Rattle.gltf_findings_lines.specs.Khronos.{message_data}
use Rattle.gltf_findings_lines.proofs.khronos.message_values.Given as goal

-- the findings that are left give all messages
abbrev pub invariant-loop-one : goal.invariant-loop-one
invariant-loop-one l = map view l.values.items ++ map message_data (drop l.one-index l.shown) ≡ map message_data l.shown
