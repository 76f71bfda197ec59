use Rattle.std.proofs.Common.{◌≡◌, ◌++◌}
use Rattle.std.specs.String.{string_bytes}
use Rattle.std.specs.Str.Iter.{chars_rest}
use Rattle.gltf_report_lines.specs.Escaped.{escaped}
use Rattle.gltf_report_lines.proofs.escape.escaped.Given as goal

-- what is written, and the rest of the text behind it, give the whole
abbrev pub invariant-loop-character : goal.invariant-loop-character
invariant-loop-character l = string_bytes l.found ++ escaped (chars_rest l.character-iterator) ≡ escaped l.text
