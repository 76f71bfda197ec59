-- What an object is if no member is there.
use Rattle.std.specs.Prelude.{None, unwrap_or}
use Rattle.gltf_schema.specs.Tree.{Tree, absent, Trees, end, with_tree}
use Rattle.gltf_schema.specs.Kind.{Mark, Rows, no_rows, row}
use Rattle.gltf_schema.specs.Read.{read_member}

-- what a missing member is read as; absent if it has to be there
abbrev pub default_tree : Mark → Tree
default_tree mark = unwrap_or (read_member mark (λ d. None) None) absent

-- each row's member missing
abbrev pub defaults : Rows → Trees
defaults no_rows = end
defaults (row n mark kind rows) = with_tree (default_tree mark) (defaults rows)
