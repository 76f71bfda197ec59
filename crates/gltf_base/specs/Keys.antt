-- The keys of attributes: what a semantic means, or that it is none that is known.
use Rattle.std.specs.Prelude.{ℕ, ◌==◌, List, ◌++◌, Bool, codes}
use Rattle.std.specs.declared.cmp.Ordering.{Ordering}
use Rattle.std.specs.Ordering.{nat_cmp}
use Rattle.std.specs.Cmp.Lexicographic.{slice_cmp}
use Rattle.std.specs.Fmt.{decimal}
use Rattle.std.specs.Str.{bytes_eq}

pub data Key : Type 0 where
  extras : (name : List ℕ) → Key
  positions : Key
  normals : Key
  tangents : Key
  colors : (set : ℕ) → Key
  tex_coords : (set : ℕ) → Key
  joints : (set : ℕ) → Key
  weights : (set : ℕ) → Key
  unknown : Key

abbrev pub key_text : Key → List ℕ
key_text (extras name) = codes "_" ++ name
key_text positions = codes "POSITION"
key_text normals = codes "NORMAL"
key_text tangents = codes "TANGENT"
key_text (colors set) = codes "COLOR_" ++ decimal set
key_text (tex_coords set) = codes "TEXCOORD_" ++ decimal set
key_text (joints set) = codes "JOINTS_" ++ decimal set
key_text (weights set) = codes "WEIGHTS_" ++ decimal set
key_text unknown = codes "<invalid semantic name>"

-- the place of a key among those of other meanings
abbrev pub key_rank : Key → ℕ
key_rank (extras name) = 0
key_rank positions = 1
key_rank normals = 2
key_rank tangents = 3
key_rank (colors set) = 4
key_rank (tex_coords set) = 5
key_rank (joints set) = 6
key_rank (weights set) = 7
key_rank unknown = 8

-- the order of keys: by meaning, then by set or by the bytes of the name
abbrev pub key_cmp : Key → Key → Ordering
key_cmp (extras a) (extras b) = slice_cmp nat_cmp a b
key_cmp (colors a) (colors b) = nat_cmp a b
key_cmp (tex_coords a) (tex_coords b) = nat_cmp a b
key_cmp (joints a) (joints b) = nat_cmp a b
key_cmp (weights a) (weights b) = nat_cmp a b
key_cmp a b = nat_cmp (key_rank a) (key_rank b)

-- keys are equal where they mean the same, with the same set or name
abbrev pub key_eq : Key → Key → Bool
key_eq (extras a) (extras b) = bytes_eq a b
key_eq (colors a) (colors b) = a == b
key_eq (tex_coords a) (tex_coords b) = a == b
key_eq (joints a) (joints b) = a == b
key_eq (weights a) (weights b) = a == b
key_eq a b = key_rank a == key_rank b
