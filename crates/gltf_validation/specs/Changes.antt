-- What calls do to a document without reports, one after another.
use Rattle.std.specs.Prelude.{◌≡◌, ℕ, List, [], ◌∷◌}
use Rattle.gltf_base.specs.Lists.{ListName}
use Rattle.gltf_schema.specs.Tree.{Tree}
use Rattle.gltf_root.specs.Pushed.{pushed}
use Rattle.gltf_root.specs.Root.{root_tree}
use Rattle.gltf_root.specs.declared.root.Root.{Root}
use Rattle.gltf_validation_rules.specs.Context.{Rules}
use Rattle.gltf_validation.specs.Clean.{IsClean, item_reports}
use Rattle.gltf_validation.specs.Replaced.{replaced}
use Rattle.gltf_validation.specs.Set.{IsShown, requiring}

-- a call that changes a document
pub data Change : Type 0 where
  -- an item, which a tree stands for, is put at the end of a list
  push : ListName → Tree → Change
  -- it is put in the place of the item at a number of a list
  replace : ListName → ℕ → Tree → Change
  -- the scene, the asset, the extras and the names of the extensions that are used or required are set
  set_scene : Change
  set_asset : Change
  set_extras : Change
  set_extensions_used : Change
  set_extensions_required : Change

-- a call makes a new document of an old one by rules, and its success says that it may. A pushed item has no report at its
-- place, and the scene is listed. A replaced item and required names leave no report
abbrev pub IsChanged : Rules → Change → Root → Root → Type 0
IsChanged rules (push named x) old new = (item_reports rules named x (root_tree old) ≡ []) × (root_tree new ≡ pushed named x (root_tree old))
IsChanged rules (replace named n x) old new = IsClean rules (replaced named n x (root_tree old)) × (root_tree new ≡ replaced named n x (root_tree old))
IsChanged rules set_scene old new = IsShown new.scene old × (new ≡ record old { scene = new.scene })
IsChanged rules set_asset old new = new ≡ record old { asset = new.asset }
IsChanged rules set_extras old new = new ≡ record old { extras = new.extras }
IsChanged rules set_extensions_used old new = new ≡ record old { extensions_used = new.extensions_used }
IsChanged rules set_extensions_required old new =
    IsClean rules (root_tree (requiring new.extensions_required old)) × (new ≡ requiring new.extensions_required old)

-- the calls of a list, one after another
abbrev pub AreChanged : Rules → List Change → Root → Root → Type 0
AreChanged rules [] old new = new ≡ old
AreChanged rules (change ∷ changes) old new = (next : Root) × IsChanged rules change old next × AreChanged rules changes next new
