-- Bytes that are no text have no positions.
use Rattle.std.proofs.Common.{inl}
use Rattle.gltf_findings_lines.proofs.Placing.{none_placed}
use Rattle.gltf_findings_lines.proofs.placed.placed_in_json.Goals as goal

pub returns-in_ok-placed-in-Err : goal.returns-in_ok-placed-in-Err
returns-in_ok-placed-in-Err c = none_placed c.args.json.now c.args.shown.now c.in_ok-placed-in-Err.placed.items (inl c.in-Err.ensures.cases.0) c.in_ok-placed-in-Err.ensures
