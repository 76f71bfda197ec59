-- The steps of a path, without where they lie in memory.
use Rattle.std.specs.Prelude.{ℕ, List, map}
use Rattle.gltf_base.specs.Keys.{key_text}
use Rattle.gltf_base.specs.Semantics.{checked_key}
use Rattle.gltf_base.specs.declared.path.Step.{Step as Borrowed}
use Rattle.gltf_base.specs.declared.path.Step.TheVariants as borrowed
use Rattle.arrayvec.specs.ArrayVec.{ArrayVec}

pub data Step : Type 0 where
  field : (name : List ℕ) → Step
  item : (number : ℕ) → Step
  key : (text : List ℕ) → Step
  value : (text : List ℕ) → Step

-- a step to an attribute is one to the key of its semantic's text
abbrev pub step_of : Borrowed → Step
step_of (borrowed.Field name) = field name.now
step_of (borrowed.Index number) = item number
step_of (borrowed.Key text) = key text.now
step_of (borrowed.Attribute semantic) = key (key_text (checked_key semantic.now))
step_of (borrowed.Value text) = value text.now

abbrev pub steps_of : ArrayVec Borrowed → List Step
steps_of path = map step_of path.items
