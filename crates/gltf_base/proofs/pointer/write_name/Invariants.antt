use Rattle.std.proofs.Common.{◌≡◌, ◌++◌, codes}
use Rattle.std.specs.String.{string_bytes}
use Rattle.std.specs.Str.Iter.{chars_rest}
use Rattle.gltf_base.specs.Pointers.{escaped}
use Rattle.gltf_base.proofs.pointer.write_name.Given as goal

-- the rest of the name behind what is written gives the whole text
abbrev pub invariant-loop-character : goal.invariant-loop-character
invariant-loop-character l = string_bytes l.pointer ++ escaped (chars_rest l.character-iterator) ≡ string_bytes l.fn.pointer ++ codes "/" ++ escaped l.fn.name
