-- Documents without reports that calls change stay so.
use Rattle.std.proofs.Common.{◌≡◌, List, [], ◌∷◌, Ok, refl, sym, ◌∙◌, subst}
use Rattle.std.specs.Prelude.{String}
use Rattle.std.specs.declared.alloc.Global.{Global}
use Rattle.std.specs.declared.vec.Vec.{Vec}
use Rattle.gltf_root.specs.Root.{root_tree}
use Rattle.gltf_root.specs.declared.root.Root.{Root}
use Rattle.gltf_validation_rules.specs.Context.{Rules}
use Rattle.gltf_validation_rules.proofs.PushesOnto.{onto_clean}
use Rattle.gltf_validation.specs.Changes.{Change, push, replace, set_scene, set_asset, set_extras, set_extensions_used, set_extensions_required, IsChanged, AreChanged}
use Rattle.gltf_validation.specs.Clean.{IsClean}
use Rattle.gltf_validation.specs.Set.{IsRequired, requiring}
use Rattle.gltf_validation.proofs.Setting.{asset_set, extras_set, scene_set, used_set}

-- a document that is the same as one without reports
same_clean : (rules : Rules) (r s : Root) → s ≡ r → IsClean rules (root_tree r) → IsClean rules (root_tree s)
same_clean rules r s is clean = subst (λ q. IsClean rules (root_tree q)) (sym is) clean

one_changed : (rules : Rules) (change : Change) (old new : Root) → IsChanged rules change old new → IsClean rules (root_tree old) → IsClean rules (root_tree new)
one_changed rules (push named x) old new h clean = subst (IsClean rules) (sym h.1) (onto_clean rules named x old clean ∙ h.0)
one_changed rules (replace named n x) old new h clean = subst (IsClean rules) (sym h.1) h.0
one_changed rules set_scene old new h clean = scene_set rules old new h.1 h.0 clean
one_changed rules set_asset old new h clean = same_clean rules (record old { asset = new.asset }) new h (asset_set rules old new.asset clean)
one_changed rules set_extras old new h clean = same_clean rules (record old { extras = new.extras }) new h (extras_set rules old new.extras clean)
one_changed rules set_extensions_used old new h clean =
    same_clean rules (record old { extensions_used = new.extensions_used }) new h (used_set rules old new.extensions_used clean)
one_changed rules set_extensions_required old new h clean = same_clean rules (record old { extensions_required = new.extensions_required }) new h.1 h.0

-- the law, for a list of calls
pub all_changed : (rules : Rules) (changes : List Change) (old new : Root) → AreChanged rules changes old new → IsClean rules (root_tree old) → IsClean rules (root_tree new)
all_changed rules [] old new h clean = same_clean rules old new h clean
all_changed rules (change ∷ changes) old new h clean = all_changed rules changes h.0 new h.2 (one_changed rules change old h.0 h.1 clean)

-- ---- the calls

pub is_required : (rules : Rules) (names : Vec (String Global) Global) (old new : Root) → IsRequired rules names old (Ok tt) new → IsChanged rules set_extensions_required old new
is_required rules names old new h =
    subst (λ q. IsClean rules (root_tree (requiring q.extensions_required old)) × (q ≡ requiring q.extensions_required old)) (sym h.1) (h.0, refl)
