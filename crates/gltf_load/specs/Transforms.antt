-- The local transforms of nodes (glTF 2.0, sections 3.5.3 and 5.25), in floats of 32 bits. The result of each step is rounded.
use Rattle.std.specs.Prelude.{◌≡◌, pos, List, [], ◌∷◌, ◌++◌, map, Option, Some, None, option_map}
use Rattle.std.specs.Float.{Float, binary32, round_to_format}
use lib.Ieee.{of_int, add, sub, mul}
use Rattle.serde_json.specs.Find.{to_float}
use Rattle.gltf_base.specs.declared.real.Real.{Real}
use Rattle.gltf_base.specs.Reals.{real_number}
use Rattle.gltf_scene.specs.declared.scene.Node.{Node}
use Rattle.gltf_accessors.specs.Values.{AreEach}

-- the float that is nearest to a number of a document
abbrev pub nearest : Real → Float
nearest x = round_to_format binary32 (to_float (real_number x))

abbrev pub zero : Float
zero = of_int binary32 (pos 0)

abbrev pub one : Float
one = of_int binary32 (pos 1)

infixl 40 ◌⊕◌
abbrev pub ◌⊕◌ : Float → Float → Float
a ⊕ b = add binary32 a b

infixl 40 ◌⊖◌
abbrev pub ◌⊖◌ : Float → Float → Float
a ⊖ b = sub binary32 a b

infixl 50 ◌⊗◌
abbrev pub ◌⊗◌ : Float → Float → Float
a ⊗ b = mul binary32 a b

-- 2ab
abbrev pub twice : Float → Float → Float
twice a b = a ⊗ (b ⊕ b)

-- the columns of the matrix that turns by the unit quaternion x, y, z, w
abbrev pub column_x : Float → Float → Float → Float → List Float
column_x x y z w = (one ⊖ (twice y y ⊕ twice z z)) ∷ (twice x y ⊕ twice w z) ∷ (twice x z ⊖ twice w y) ∷ []

abbrev pub column_y : Float → Float → Float → Float → List Float
column_y x y z w = (twice x y ⊖ twice w z) ∷ (one ⊖ (twice x x ⊕ twice z z)) ∷ (twice y z ⊕ twice w x) ∷ []

abbrev pub column_z : Float → Float → Float → Float → List Float
column_z x y z w = (twice x z ⊕ twice w y) ∷ (twice y z ⊖ twice w x) ∷ (one ⊖ (twice x x ⊕ twice y y)) ∷ []

-- a column that is scaled
abbrev pub scaled : Float → List Float → List Float
scaled s column = map (λ a. a ⊗ s) column ++ zero ∷ []

-- T * R * S, column by column
abbrev pub composed : List Float → List Float → List Float → List Float
composed (tx ∷ ty ∷ tz ∷ []) (x ∷ y ∷ z ∷ w ∷ []) (sx ∷ sy ∷ sz ∷ []) = scaled sx (column_x x y z w) ++ scaled sy (column_y x y z w) ++ scaled sz (column_z x y z w) ++ tx ∷ ty ∷ tz ∷ one ∷ []
composed t r s = []

abbrev pub no_translation : List Float
no_translation = zero ∷ zero ∷ zero ∷ []

abbrev pub no_rotation : List Float
no_rotation = zero ∷ zero ∷ zero ∷ one ∷ []

abbrev pub no_scale : List Float
no_scale = one ∷ one ∷ one ∷ []

-- the nearest floats of numbers, or what a missing member stands for
abbrev pub AreNearestOr : List Float → Option (List Real) → List Float → Type 0
AreNearestOr missing None xs = xs ≡ missing
AreNearestOr missing (Some numbers) xs = AreEach nearest numbers xs

-- the matrix of a node, or that of its translation, rotation and scale
abbrev pub IsLocal : Option (List Real) → Option (List Real) → Option (List Real) → Option (List Real) → List Float → Type 0
IsLocal (Some m) t r s xs = AreEach nearest m xs
IsLocal None t r s xs = (ts rs ss : List Float) × AreNearestOr no_translation t ts × AreNearestOr no_rotation r rs × AreNearestOr no_scale s ss × (xs ≡ composed ts rs ss)

abbrev pub IsLocalMatrix : Node → List Float → Type 0
IsLocalMatrix n xs = IsLocal n.matrix n.translation (option_map (λ q. q.0) n.rotation) n.scale xs
