-- The set has the names before, and those that are left give all findings.
use Rattle.std.proofs.Common.{◌≡◌, ◌++◌, ℕ, List, [], drop}
use Rattle.std.specs.Prelude.{String}
use Rattle.std.specs.declared.alloc.Global.{Global}
use Rattle.std.specs.BTreeSet.{BTreeSet, contains_text}
use Rattle.gltf_findings_codes.specs.declared.finding.Finding.{Finding}
use Rattle.gltf_findings_codes.specs.declared.name.Name.{Name}
use Rattle.gltf_findings.specs.ExtensionNames.{is_listed, name_repeats}
use Rattle.gltf_findings.proofs.extensions.add_name_repeats.Given as goal

pub record IsPart (list : Name) (names : List (String Global)) (before : BTreeSet (String Global)) (old now : List Finding) (k : ℕ) : Type 0 where
  pub earlier : List (String Global)
  pub known : (q : List ℕ) → contains_text before q ≡ is_listed earlier q
  pub all : now ++ name_repeats list earlier k (drop k names) ≡ old ++ name_repeats list [] 0 names

abbrev pub invariant-loop-number : goal.invariant-loop-number
invariant-loop-number l = IsPart l.list l.names l.before l.fn.to.items l.to.items l.number
