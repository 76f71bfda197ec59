-- The bytes before are letters, digits and underscores.
use Rattle.std.proofs.Common.{◌≡◌, drop}
use Rattle.gltf_findings.specs.ExtensionNames.{all_word}
use Rattle.gltf_findings.proofs.names.is_word.Given as goal

abbrev pub invariant-loop-byte : goal.invariant-loop-byte
invariant-loop-byte l = all_word l.text ≡ all_word (drop l.byte-index l.text)
