-- What is held of a document without reports.
use Rattle.std.specs.Prelude.{◌≡◌, Result, Ok, Err}
use Rattle.gltf_schema.specs.Tree.{Tree}
use Rattle.gltf_root.specs.Root.{root_tree}
use Rattle.gltf_root.specs.declared.root.Root.{Root}
use Rattle.gltf_validation_rules.specs.Context.{Rules, rules_of}
use Rattle.gltf_validation.specs.Clean.{IsClean}
use Rattle.gltf_validation.specs.declared.clean.Clean.{Clean}

-- the rules, the root, and the root as the table sees it
abbrev pub rules_held : Clean → Rules
rules_held c = rules_of c.rules

abbrev pub root_held : Clean → Root
root_held c = c.root

abbrev pub tree_held : Clean → Tree
tree_held c = root_tree c.root

-- a root is held by rules exactly where it has no report by them; else it is handed back
abbrev pub IsHeld : Rules → Root → Result Clean Root → Type 0
IsHeld rules root (Ok c) = IsClean rules (root_tree root) × (rules_held c ≡ rules) × (root_held c ≡ root)
IsHeld rules root (Err back) = (¬ IsClean rules (root_tree root)) × (back ≡ root)
