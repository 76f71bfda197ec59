-- What is printed of what JSON is at a place.
use Rattle.std.specs.Prelude.{ℕ, List, codes}
use Rattle.gltf_root.specs.declared.found.Found.{Found}
use Rattle.gltf_root.specs.declared.found.Found.TheVariants.{Missing, Null, Bool, Number, Text, List as AList, Object}

abbrev pub found_text : Found → List ℕ
found_text Missing = codes "nothing"
found_text Null = codes "null"
found_text Bool = codes "true or false"
found_text Number = codes "a number"
found_text Text = codes "a text"
found_text AList = codes "a list"
found_text Object = codes "an object"
