-- Files of a folder.
use Rattle.std.specs.Prelude.{ℕ, ◌≤◌, List, [], ◌∷◌, ◌++◌, length, Result, Ok, Err}
use Rattle.gltf_buffers.specs.declared.folder.FileFault.{FileFault}
use Rattle.gltf_buffers.specs.declared.folder.FileFault.TheVariants.{Path, Unopened, Unread, Memory}
use Rattle.gltf_buffers.specs.Paths.{IsPathOf, IsPathFault}

-- the path of a file in a folder; an empty one is the current folder
abbrev pub joined : List ℕ → List ℕ → List ℕ
joined [] path = path
joined (b ∷ folder) path = (b ∷ folder) ++ 47 ∷ path

-- why a file is not read
abbrev pub IsReadFault : FileFault → Type 0
IsReadFault (Path f) = ⊥
IsReadFault (Unopened e) = Unit {0}
IsReadFault (Unread e) = Unit {0}
IsReadFault (Memory e) = Unit {0}

-- what may be given for a URI: bytes only if it is a path, and no more than are left
abbrev pub MayGive : ℕ → List ℕ → Result (List ℕ) FileFault → Type 0
MayGive left uri (Ok bytes) = ((path : List ℕ) × IsPathOf uri path) × (length bytes ≤ left)
MayGive left uri (Err (Path f)) = IsPathFault uri f
MayGive left uri (Err e) = IsReadFault e
