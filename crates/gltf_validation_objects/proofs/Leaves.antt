-- What was found at a place is a leaf of its checklist.
use Rattle.std.proofs.Common.{◌≡◌, List, [], ◌∷◌, ◌++◌, Option, Some, None, refl, sym, ◌∙◌, ap}
use Rattle.gltf_base.specs.Steps.{Step}
use Rattle.gltf_base.specs.declared.validation.Error.{Error}
use Rattle.std.specs.Option.{is_some}
use Rattle.gltf_schema.specs.Tree.{Tree, invalid}
use Rattle.gltf_validation_rules.specs.Report.{From, found_at, report}
use Rattle.gltf_base.specs.Semantics.{checked_key}
use Rattle.gltf_base.specs.Spelling.{Spelling, by_number}
use Rattle.gltf_base.specs.declared.mesh.Semantic.{Semantic}
use Rattle.gltf_base.specs.declared.mesh.Semantic.TheVariants as semantic
use Rattle.gltf_base.specs.declared.validation.Checked.{Checked}
use Rattle.gltf_base.specs.declared.validation.Checked.TheVariants.{Valid, Invalid}
use Rattle.gltf_schema.specs.Leaves.{checked_tree}
use Rattle.gltf_validation_rules.specs.Faults.{choice_faults, key_faults}
use Rattle.gltf_validation_objects.specs.Checklist.{leaf}
use Rattle.gltf_validation_objects.specs.ChecklistOf.{leaf_of, fault_of_reports}
use Rattle.gltf_validation_objects.specs.References.{invalid_if}

pub found_leaf : (f : From) (e : Option Error) (s : Step) → ((base : List Step) → found_at e (base ++ s ∷ []) ≡ f base) → leaf e ≡ leaf_of f
found_leaf f None s h = rw (sym (h [])) refl
found_leaf f (Some error) s h = rw (sym (h [])) refl

pub found_fault : (f : From) (e : Option Error) → ((base : List Step) → found_at e base ≡ f base) → e ≡ fault_of_reports f
found_fault f None h = rw (sym (h [])) refl
found_fault f (Some error) h = rw (sym (h [])) refl

-- the one fault of a choice
pub found_choice : (t : Tree) (e : Option Error) → ((base : List Step) → found_at e base ≡ choice_faults t base)
    → leaf (invalid_if (is_some e)) ≡ leaf_of (choice_faults t)
found_choice t None h = ap leaf (found_fault (choice_faults t) None h)
found_choice invalid (Some e) h = refl
found_choice t (Some e) h =
    let no : report [] e ∷ [] ≡ [] = h [] in
    absurd cc

-- an attribute's key is wrong where it is an invalid choice
key_fault : (spell : Semantic → Spelling) (k : Checked Semantic) → fault_of_reports (choice_faults (checked_tree spell k)) ≡ fault_of_reports (key_faults (checked_key k))
key_fault spell (Valid (semantic.Extras name)) = refl
key_fault spell (Valid semantic.Positions) = refl
key_fault spell (Valid semantic.Normals) = refl
key_fault spell (Valid semantic.Tangents) = refl
key_fault spell (Valid (semantic.Colors set)) = refl
key_fault spell (Valid (semantic.TexCoords set)) = refl
key_fault spell (Valid (semantic.Joints set)) = refl
key_fault spell (Valid (semantic.Weights set)) = refl
key_fault spell Invalid = refl

pub found_key : (k : Checked Semantic) (e : Option Error)
    → ((spell : Semantic → Spelling) (base : List Step) → found_at e base ≡ choice_faults (checked_tree spell k) base) → e ≡ fault_of_reports (key_faults (checked_key k))
found_key k e h = found_fault (choice_faults (checked_tree (λ x. by_number 0) k)) e (h (λ x. by_number 0)) ∙ key_fault (λ x. by_number 0) k
