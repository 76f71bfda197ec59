-- What is wrong with a value by itself. Sections are those of glTF 2.0.
use Rattle.std.specs.Prelude.{ℕ, suc, List, [], ◌∷◌, ◌++◌, Bool, not, cond, ◌&&◌, nat_lt, nat_le, nat_eq}
use Rattle.gltf_base.specs.Keys.{Key, unknown, key_text}
use Rattle.gltf_base.specs.Steps.{item, key}
use Rattle.gltf_base.specs.declared.validation.Error.{Error}
use Rattle.gltf_base.specs.declared.validation.Error.TheVariants.{IndexOutOfBounds, Invalid, Missing}
use Rattle.gltf_schema.specs.Tree.{Tree, index, whole, invalid, Trees, end, with_tree}
use Rattle.gltf_parts.specs.Texture.{no_image}
use Rattle.gltf_validation_rules.specs.Report.{report, From}

-- a report if something holds
abbrev pub report_if : Bool → Error → From
report_if b error base = cond b (report base error ∷ []) []

-- an index past the end of its list (3.3)
abbrev pub number_faults : ℕ → ℕ → From
number_faults count n = report_if (not (nat_lt n count)) IndexOutOfBounds

-- the same of a tree, where it is an index
abbrev pub index_faults : ℕ → Tree → From
index_faults count (index n) base = number_faults count n base
index_faults count _ base = []

-- a texture has an image; 2^32 - 1 means that it has none, which is no fault if textures may be
-- empty. This is the ported crate's rule: 5.29.2 allows a texture without an image
abbrev pub source_faults : Bool → ℕ → Tree → From
source_faults may_be_empty count (index n) base = cond (nat_eq n no_image) (report_if (not may_be_empty) Missing base) (number_faults count n base)
source_faults may_be_empty count _ base = []

-- a stride below 4 or above 252 bytes (5.11.4); by the ported crate's rule it need not be a
-- multiple of 4
abbrev pub stride_faults : Tree → From
stride_faults (whole n) base = report_if (not (nat_le 4 n && nat_le n 252)) Invalid base
stride_faults _ base = []

-- an item of a choice that is none of those listed (section 5, at each such property)
abbrev pub choice_faults : Tree → From
choice_faults invalid base = report base Invalid ∷ []
choice_faults _ base = []

-- a key of attributes that means nothing (3.7.2.1)
abbrev pub key_faults : Key → From
key_faults unknown base = report base Invalid ∷ []
key_faults _ base = []

-- each attribute's key, then its index, both at the key (5.24.1)
abbrev pub entries_faults : ℕ → List (Key × ℕ) → From
entries_faults count [] base = []
entries_faults count (e ∷ es) base =
    (key_faults e.0 (base ++ key (key_text e.0) ∷ []) ++ number_faults count e.1 (base ++ key (key_text e.0) ∷ [])) ++ entries_faults count es base

-- what is wrong with each item of a list, at its number
abbrev pub items_reports : (Tree → From) → ℕ → Trees → From
items_reports f i end base = []
items_reports f i (with_tree t ts) base = f t (base ++ item i ∷ []) ++ items_reports f (suc i) ts base
