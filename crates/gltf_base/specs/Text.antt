-- The text of a path.
use Rattle.std.specs.Prelude.{ℕ, List, [], ◌∷◌, ◌++◌, codes}
use Rattle.std.specs.Fmt.{decimal}
use Rattle.gltf_base.specs.Steps.{Step, field, item, key, value}

-- a name is behind a dot, but at the beginning
abbrev pub dotted : List ℕ → List ℕ → List ℕ
dotted [] name = name
dotted (c ∷ cs) name = (c ∷ cs) ++ codes "." ++ name

abbrev pub text_with : List ℕ → Step → List ℕ
text_with path (field name) = dotted path name
text_with path (item number) = path ++ codes "[" ++ decimal number ++ codes "]"
text_with path (key text) = path ++ codes "[\"" ++ text ++ codes "\"]"
text_with path (value text) = path ++ codes " = \"" ++ text ++ codes "\""

-- the steps applied to a path, from the left
abbrev pub text_behind : List ℕ → List Step → List ℕ
text_behind path [] = path
text_behind path (step ∷ steps) = text_behind (text_with path step) steps

abbrev pub path_text : List Step → List ℕ
path_text steps = text_behind [] steps
