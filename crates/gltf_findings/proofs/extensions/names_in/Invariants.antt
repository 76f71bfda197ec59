-- A name is in the set or among those that are left.
use Rattle.std.proofs.Common.{◌≡◌, ℕ, List, drop}
use Rattle.std.specs.Prelude.{◌||◌}
use Rattle.std.specs.BTreeSet.{contains_text}
use Rattle.gltf_findings.specs.ExtensionNames.{is_listed}
use Rattle.gltf_findings.proofs.extensions.names_in.Given as goal

abbrev pub invariant-loop-name : goal.invariant-loop-name
invariant-loop-name l = (q : List ℕ) → (contains_text l.set q || is_listed (drop l.name-index l.names) q) ≡ is_listed l.names q
