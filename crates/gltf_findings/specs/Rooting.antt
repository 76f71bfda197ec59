-- Skins by the numbers that say which nodes are below which.
use Rattle.std.specs.Prelude.{◌≡◌, ℕ, ◌<◌, List, [], ◌∷◌, length, map, slice_get, Bool, true, false, not, ◌&&◌, nat_lt, Option, Some, None}
use Rattle.gltf_base.specs.declared.index.IndexTo.{IndexTo}
use Rattle.gltf_base.specs.Indexes.{index_number}
use Rattle.gltf_load.specs.Named.{joints_named}
use Rattle.gltf_scene.specs.declared.skin.Skin.{Skin}
use Rattle.gltf_hierarchy.specs.declared.subtrees.Subtrees.{Subtrees}
use Rattle.gltf_hierarchy.specs.Subtrees.{is_at_or_below, tree_roots}
use Rattle.gltf_findings_codes.specs.Marks.{is_marked}
use Rattle.gltf_findings_codes.specs.Rules.{is_some_unresolved}

abbrev pub are_among : ℕ → List ℕ → Bool
are_among count [] = true
are_among count (n ∷ ns) = nat_lt n count && are_among count ns

abbrev pub is_whole : ℕ → Skin → Bool
is_whole count s = are_among count (joints_named s) && not (is_some_unresolved count s.skeleton)

abbrev pub are_below : Subtrees → ℕ → List ℕ → Bool
are_below t top [] = true
are_below t top (n ∷ ns) = is_at_or_below t top n && are_below t top ns

abbrev pub are_below_some : Subtrees → Option ℕ → List ℕ → Bool
are_below_some t None ns = false
are_below_some t (Some root) ns = are_below t root ns

-- all are below the root above the first
abbrev pub have_one_root : Subtrees → List ℕ → Bool
have_one_root t [] = true
have_one_root t (n ∷ ns) = are_below_some t (slice_get (tree_roots t) n) (n ∷ ns)

abbrev pub is_headed : {P : Type 0} → Subtrees → Option (IndexTo P) → List ℕ → Bool
is_headed t None joints = true
is_headed t (Some skeleton) joints = are_below t (index_number skeleton) joints

-- the marks of the skins before a bound
pub record AreMarksBy (t : Subtrees) (count : ℕ) (skins : List Skin) (apart astray : List Bool) (bound : ℕ) : Type 0 where
  pub apart_len : length apart ≡ bound
  pub astray_len : length astray ≡ bound
  pub apart_is : (n : ℕ) (s : Skin) → n < bound → slice_get skins n ≡ Some s → is_marked apart n ≡ (is_whole count s && not (have_one_root t (joints_named s)))
  pub astray_is : (n : ℕ) (s : Skin) → n < bound → slice_get skins n ≡ Some s → is_marked astray n ≡ (is_whole count s && not (is_headed t s.skeleton (joints_named s)))
