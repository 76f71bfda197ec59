-- What values are validated against: a document, by rules.
use Rattle.std.specs.Prelude.{ℕ, List, [], ◌∷◌, ◌++◌, Bool, false, map, codes}
use Rattle.gltf_base.specs.ExtensionNames.{enabled_extensions}
use Rattle.gltf_schema.specs.Tree.{Tree}
use Rattle.gltf_root.specs.Root.{root_tree}
use Rattle.gltf_validation_rules.specs.declared.context.Context.{Context as GivenContext}
use Rattle.gltf_validation_rules.specs.declared.rules.Rules.{Rules as GivenRules}

-- what a caller rules: whether a texture may be without an image, and the names of the extensions
-- that a document may require
pub record Rules : Type 0 where
  pub empty_texture : Bool
  pub enabled : List (List ℕ)

-- the rules where nobody rules otherwise
abbrev pub standard_rules : Rules
standard_rules = record { empty_texture = false; enabled = enabled_extensions }

-- what a document may require where a texture may be without an image: the extensions that give it
-- one of another format, too
abbrev pub enabled_with_empty_textures : List (List ℕ)
enabled_with_empty_textures =
    enabled_extensions ++ codes "KHR_texture_basisu" ∷ codes "EXT_texture_webp" ∷ codes "MSFT_texture_dds" ∷ []

-- the rules, and the document whose items indexes name
pub record Context : Type 0 where
  pub rules : Rules
  pub root : Tree

abbrev pub under : Rules → Tree → Context
under rules root = record { rules = rules; root = root }

-- what was given, as contracts speak of it
abbrev pub rules_of : GivenRules → Rules
rules_of given = record { empty_texture = given.empty_texture; enabled = map (λ name. name.now) given.enabled.now }

abbrev pub context_of : GivenContext → Context
context_of given = under (rules_of given.rules.now) (root_tree given.root.now)
