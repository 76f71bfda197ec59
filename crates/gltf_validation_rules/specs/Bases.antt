-- The same reports, as they are seen from further away.
use Rattle.std.specs.Prelude.{List, ◌++◌}
use Rattle.gltf_base.specs.Steps.{Step}
use Rattle.gltf_validation_rules.specs.Report.{Report, report}

-- a report with the steps of a base in front of its own
abbrev pub behind : List Step → Report → Report
behind base r = report (base ++ r.steps) r.error
