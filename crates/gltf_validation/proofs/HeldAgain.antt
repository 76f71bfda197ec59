-- A root that is the document of a `Clean` is held by its rules.
use Rattle.std.proofs.Common.{◌≡◌, ◌∙◌, ap, sym, subst, ℕ, List, true, Result, Ok, Err, IsOkAnd}
use Rattle.gltf_root.specs.Answer.{answer, document}
use Rattle.gltf_root.specs.Rewritten.{IsShallow}
use Rattle.gltf_root.specs.Root.{root_kind, root_tree}
use Rattle.gltf_root.specs.Written.{IsReadBack}
use Rattle.gltf_root.specs.declared.root.Root.{Root}
use Rattle.gltf_root.proofs.Rewriting.{same_read}
use Rattle.gltf_schema.specs.Plain.{is_plain}
use Rattle.gltf_validation.specs.Clean.{IsClean}
use Rattle.gltf_validation.specs.Held.{IsHeld, rules_held, tree_held}
use Rattle.gltf_validation.specs.declared.clean.Clean.{Clean}

held_alike : (c : Clean) (root : Root) (result : Result Clean Root) → root_tree root ≡ tree_held c → IsHeld (rules_held c) root result
    → IsOkAnd result (λ again. tree_held again ≡ tree_held c)
held_alike c root (Ok again) same held = ap root_tree held.2 ∙ same
held_alike c root (Err back) same held = absurd (held.0 (subst (λ t. IsClean (rules_held c) t) (sym same) c.is_clean))

pub held_again : (c : Clean) (root : Root) (bytes : List ℕ) (result : Result Clean Root) → is_plain root_kind (tree_held c) ≡ true → IsShallow (tree_held c)
    → IsReadBack (tree_held c) bytes → answer bytes ≡ document (root_tree root) → IsHeld (rules_held c) root result → IsOkAnd result (λ again. tree_held again ≡ tree_held c)
held_again c root bytes result plain shallow back read held = held_alike c root result (same_read (tree_held c) (root_tree root) bytes plain shallow back read) held
