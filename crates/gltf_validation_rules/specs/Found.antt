-- Where steps lead in a JSON value, and which steps of a report lead somewhere.
use Rattle.std.specs.Prelude.{◌≡◌, ℕ, ◌^◌, ◌<◌, ⊤, List, [], ◌∷◌, Bool, true, false, cond, Option, Some, None, option_and_then}
use Rattle.serde_json.specs.Data.{Data}
use Rattle.serde_json.specs.Find.{get, at}
use Rattle.gltf_base.specs.Keys.{key_text}
use Rattle.gltf_base.specs.Names.{key_named}
use Rattle.gltf_base.specs.Steps.{Step, field, item, key, value}
use Rattle.gltf_base.specs.declared.validation.Error.{Error}
use Rattle.gltf_base.specs.declared.validation.Error.TheVariants.{Missing}
use Rattle.gltf_validation_rules.specs.Report.{Report}

-- what is one step down in a value, if anything: a member of an object, or an item of an array; a
-- step to a value stays there
abbrev pub step_to : Step → Data → Option Data
step_to (field name) d = get name d
step_to (item number) d = at number d
step_to (key text) d = get text d
step_to (value text) d = Some d

-- what the steps lead to, as their JSON pointer does (RFC 6901)
abbrev pub found : List Step → Data → Option Data
found [] d = Some d
found (s ∷ steps) d = option_and_then (found steps) (step_to s d)

-- the number of an item has 64 bits, as a pointer's number has where it is read
abbrev pub HasSmallNumber : Step → Type 0
HasSmallNumber (item number) = number < 2 ^ 64
HasSmallNumber _ = ⊤

abbrev pub without_last : List Step → List Step
without_last [] = []
without_last (s ∷ []) = []
without_last (s ∷ next ∷ steps) = s ∷ without_last (next ∷ steps)

-- the steps in front of the first key
abbrev pub before_key : List Step → List Step
before_key [] = []
before_key (key text ∷ steps) = []
before_key (s ∷ steps) = s ∷ before_key steps

abbrev pub is_missing : Error → Bool
is_missing Missing = true
is_missing _ = false

-- the steps of a report to what is there: the last one leads to nothing if something is missing
abbrev pub steps_there : Report → List Step
steps_there r = cond (is_missing r.error) (without_last r.steps) r.steps

-- the text of the first key in steps, if there is one
abbrev pub first_key : List Step → Option (List ℕ)
first_key [] = None
first_key (key text ∷ steps) = Some text
first_key (s ∷ steps) = first_key steps

-- a member of an object whose name means the key of a text: the name is that text, or spells the
-- key in another way
pub record HasKey (text : List ℕ) (d : Data) : Type 0 where
  pub name : List ℕ
  pub value : Data
  pub there : get name d ≡ Some value
  pub means : key_text (key_named name) ≡ text

-- steps lead to a value, and if there is a key among them, to an object that has it. What follows a
-- key is in the accessor that the attribute names
pub record Lead (steps : List Step) (d : Data) : Type 0 where
  pub place : Data
  pub there : found (before_key steps) d ≡ Some place
  pub at_key : (text : List ℕ) → first_key steps ≡ Some text → HasKey text place
