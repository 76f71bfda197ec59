-- The rest of the name behind what is written gives the whole part.
use Rattle.std.proofs.Common.{◌≡◌, ◌++◌}
use Rattle.std.specs.String.{string_bytes}
use Rattle.std.specs.Str.Iter.{chars_rest}
use Rattle.gltf_base.specs.Pointers.{escaped}
use Rattle.gltf_findings_lines.proofs.part.part_of.Given as goal

abbrev pub invariant-loop-character : goal.invariant-loop-character
invariant-loop-character l = string_bytes l.part ++ escaped (chars_rest l.character-iterator) ≡ escaped l.fn.name
