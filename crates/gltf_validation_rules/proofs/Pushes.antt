-- An item more at the end of a list changes nothing for what refers to it nowhere.
use Rattle.std.proofs.Common.{◌≡◌, ◌≢◌, ◌<◌, ◌≤◌, ◌⊎◌, inl, inr, ℕ, zero, suc, List, [], ◌∷◌, ◌++◌, Bool, true, false, cond, not, nat_lt, nat_eq, Some, refl, ◌∙◌, ap, arith}
use Rattle.std.proofs.lemmas.Bool.{and_parts, cases_lt, lt-ltb, le-ltb}
use Rattle.std.proofs.lemmas.List.Elements.{All-nil, All-head}
use Rattle.std.specs.List.{All, flat_map}
use Rattle.std.specs.Map.{lookup}
use Rattle.gltf_base.specs.Keys.{Key, key_text}
use Rattle.gltf_base.specs.Lists.{ListName}
use Rattle.gltf_base.specs.Steps.{Step, field, item, key}
use Rattle.gltf_base.specs.declared.validation.Error.TheVariants.{Missing}
use Rattle.gltf_schema.proofs.TakingOut.{sound_row}
use Rattle.gltf_schema.specs.Invalid.{is_unknown}
use Rattle.gltf_schema.specs.Sound.{has_attributes, suits, is_sound, are_sound}
use Rattle.gltf_schema.specs.Tree as tree
use Rattle.gltf_schema.specs.Tree.{Tree, Trees, end, with_tree, tree_at, count_of, items_in, members_in, entries_in}
use Rattle.gltf_schema.specs.Kind.{Kind, IndexInto, SourceImage, Attributes, ListOf, Object, Rows, no_rows, row, Rule, needs_positions}
use Rattle.gltf_parts.specs.Texture.{no_image}
use Rattle.gltf_scene.specs.Mesh.{primitive_rows}
use Rattle.gltf_root.specs.Lists.{list_in, count_in}
use Rattle.gltf_root.specs.Pushed.{with_last}
use Rattle.gltf_validation_rules.specs.Report.{From, Report}
use Rattle.gltf_validation_rules.specs.Context.{Rules, under}
use Rattle.gltf_validation_rules.specs.Faults.{report_if, number_faults, index_faults, source_faults, key_faults, entries_faults, items_reports}
use Rattle.gltf_validation_rules.specs.References.{Reference, item_of, missing_image, unlisted, image_of, in_index, in_entry, in_items, animation_of, references, in_members}
use Rattle.gltf_validation_rules.specs.Reports.{animation_below, reports, member_reports}
use Rattle.gltf_validation_rules.specs.Rules.{is_positions, bounds_faults, positions_faults, primitive_attributes, rule_faults, object_faults}
use Rattle.gltf_validation_rules.proofs.LongerLists.{GrowsAt, Grows}
use Rattle.gltf_validation_rules.proofs.TwoParts.{joined, first_all, second_all}

count-with_last : (x : Tree) (ts : Trees) → count_of (with_last x ts) ≡ suc (count_of ts)
count-with_last x end = refl
count-with_last x (with_tree t ts) = ap (λ n. suc n) (count-with_last x ts)

-- the trees before the end are the same; further ones are as absent as before
tree_at-with_last : (n : ℕ) (x : Tree) (ts : Trees) → n ≢ count_of ts → tree_at n (with_last x ts) ≡ tree_at n ts
tree_at-with_last zero x end off = absurd (off refl)
tree_at-with_last (suc n) x end off = refl
tree_at-with_last zero x (with_tree t ts) off = refl
tree_at-with_last (suc n) x (with_tree t ts) off = tree_at-with_last n x ts (λ e. off (ap (λ k. suc k) e))

below_next : (n count : ℕ) → n ≢ count → (n < count) ⊎ (count ≤ n) → nat_lt n (suc count) ≡ nat_lt n count
below_next n count off (inl l) = rw (lt-ltb n count l, lt-ltb n (suc count) (omega (arith, l))) refl
below_next n count off (inr l) = rw (le-ltb n count l, le-ltb n (suc count) (omega (arith, l, off))) refl

-- the reference is none to the next item of a list
abbrev pub Apart : ListName → Tree → Reference → Type 0
Apart named root r = r ≢ item_of named (count_in named root)

-- a number of one list, where it is of the other's length and both are one
same_item : (other named : ListName) (n : ℕ) (old : Tree) → other ≡ named → n ≡ count_in other old → item_of other n ≡ item_of named (count_in named old)
same_item other named n old is e = ap (λ m. item_of other m) e ∙ ap (λ l. item_of l (count_in l old)) is

-- ---- two documents of which one has an item more at the end of a list

module _ (rules : Rules) (named : ListName) (x old new : Tree) (grown : Grows named x old new) where
  -- a list, seen from a number that isn't that of the item
  number_told : (other : ListName) (n : ℕ) (base : List Step) → Apart named old (item_of other n)
      → GrowsAt other named x old new
      → number_faults (count_in other new) n base ≡ number_faults (count_in other old) n base
  number_told other n base off (inl h) =
      let apart : n ≢ count_in other old = λ e. off (same_item other named n old h.0 e) in
      let same : nat_lt n (suc (count_in other old)) ≡ nat_lt n (count_in other old) = below_next n (count_in other old) apart (cases_lt n (count_in other old)) in
      rw (h.1, count-with_last x (list_in other old), same) refl
  number_told other n base off (inr h) = rw h refl

  number_same : (other : ListName) (n : ℕ) (base : List Step) → Apart named old (item_of other n)
      → number_faults (count_in other new) n base ≡ number_faults (count_in other old) n base
  number_same other n base off = number_told other n base off (grown other)

  index_same : (other : ListName) (t : Tree) (base : List Step) → All (Apart named old) (in_index (λ n. item_of other n) t)
      → index_faults (count_in other new) t base ≡ index_faults (count_in other old) t base
  index_same other (tree.index n) base off = number_same other n base (All-head (Apart named old) (item_of other n) [] off)
  index_same other t base off = refl

  image_same : (is_none : Bool) (n : ℕ) (base : List Step) (missing : List Report) → Apart named old (cond is_none missing_image (item_of ListName.images n))
      → cond is_none missing (number_faults (count_in ListName.images new) n base) ≡ cond is_none missing (number_faults (count_in ListName.images old) n base)
  image_same true n base missing off = refl
  image_same false n base missing off = number_same ListName.images n base off

  source_same : (t : Tree) (base : List Step) → All (Apart named old) (in_index image_of t)
      → source_faults rules.empty_texture (count_in ListName.images new) t base ≡ source_faults rules.empty_texture (count_in ListName.images old) t base
  source_same (tree.index n) base off = image_same (nat_eq n no_image) n base (report_if (not rules.empty_texture) Missing base) (All-head (Apart named old) (image_of n) [] off)
  source_same t base off = refl

  -- the index of the first attribute, and those behind it
  first_apart : (other : ListName) (e : Key × ℕ) (es : List (Key × ℕ)) → All (Apart named old) (flat_map (in_entry other) (e ∷ es)) → Apart named old (item_of other e.1)
  first_apart other e es off =
      let unknown = cond (is_unknown e.0) (unlisted ∷ []) [] in
      All-head (Apart named old) (item_of other e.1) [] (second_all (Apart named old) unknown (item_of other e.1 ∷ []) (first_all (Apart named old) (in_entry other e) (flat_map (in_entry other) es) off))

  rest_apart : (other : ListName) (e : Key × ℕ) (es : List (Key × ℕ)) → All (Apart named old) (flat_map (in_entry other) (e ∷ es)) → All (Apart named old) (flat_map (in_entry other) es)
  rest_apart other e es off = second_all (Apart named old) (in_entry other e) (flat_map (in_entry other) es) off

  entries_same : (other : ListName) (es : List (Key × ℕ)) (base : List Step) → All (Apart named old) (flat_map (in_entry other) es)
      → entries_faults (count_in other new) es base ≡ entries_faults (count_in other old) es base
  entries_same other [] base off = refl
  entries_same other (e ∷ es) base off =
      let at = base ++ key (key_text e.0) ∷ [] in
      joined (ap (λ rs. key_faults e.0 at ++ rs) (number_same other e.1 at (first_apart other e es off))) (entries_same other es base (rest_apart other e es off))

  items_same : (f g : Tree → From) (r : Tree → List Reference) → ((t : Tree) (base : List Step) → All (Apart named old) (r t) → f t base ≡ g t base)
      → (i : ℕ) (ts : Trees) (base : List Step) → All (Apart named old) (in_items r ts) → items_reports f i ts base ≡ items_reports g i ts base
  items_same f g r each i end base off = refl
  items_same f g r each i (with_tree t ts) base off =
      joined (each t (base ++ item i ∷ []) (first_all (Apart named old) (r t) (in_items r ts) off)) (items_same f g r each (suc i) ts base (second_all (Apart named old) (r t) (in_items r ts) off))

  -- ---- the rule of primitives

  -- the accessor of a number that isn't that of the item
  tree_told : (n : ℕ) → (ListName.accessors ≡ named → Apart named old (item_of ListName.accessors n))
      → GrowsAt ListName.accessors named x old new
      → tree_at n (list_in ListName.accessors new) ≡ tree_at n (list_in ListName.accessors old)
  tree_told n off (inl h) =
      let apart : n ≢ count_in ListName.accessors old = λ e. off h.0 (same_item ListName.accessors named n old h.0 e) in
      ap (tree_at n) h.1 ∙ tree_at-with_last n x (list_in ListName.accessors old) apart
  tree_told n off (inr h) = ap (tree_at n) h

  positions_told : (b : Bool) (e : Key × ℕ) (es : List (Key × ℕ)) (base : List Step) → (ListName.accessors ≡ named → Apart named old (item_of ListName.accessors e.1))
      → positions_faults (lookup is_positions es) new base ≡ positions_faults (lookup is_positions es) old base
      → positions_faults (cond b (Some e.1) (lookup is_positions es)) new base ≡ positions_faults (cond b (Some e.1) (lookup is_positions es)) old base
  positions_told true e es base off rest = ap (λ t. bounds_faults t base) (tree_told e.1 off (grown ListName.accessors))
  positions_told false e es base off rest = rest

  positions_same : (es : List (Key × ℕ)) (base : List Step) → (ListName.accessors ≡ named → All (Apart named old) (flat_map (in_entry ListName.accessors) es))
      → positions_faults (lookup is_positions es) new base ≡ positions_faults (lookup is_positions es) old base
  positions_same [] base off = refl
  positions_same (e ∷ es) base off =
      positions_told (is_positions e.0) e es base (λ is. first_apart ListName.accessors e es (off is)) (positions_same es base (λ is. rest_apart ListName.accessors e es (off is)))

  -- a primitive's attributes are a member of it, which its rule looks up
  attributes_apart : (rows : Rows) (ts : Trees) (animation : Tree) → has_attributes rows ≡ true → All (Apart named old) (in_members ts rows animation)
      → All (Apart named old) (flat_map (in_entry ListName.accessors) (entries_in (primitive_attributes ts)))
  unfolding primitive_rows
  attributes_apart rows end animation has off = All-nil (Apart named old)
  attributes_apart (row name mark (Attributes ListName.accessors) rows) (with_tree t ts) animation has off =
      first_all (Apart named old) (flat_map (in_entry ListName.accessors) (entries_in t)) (in_members ts rows animation) off
  attributes_apart rows (with_tree t ts) animation has off = absurd cc

  rule_same : (rule : Rule) (rows : Rows) (ts : Trees) (animation : Tree) (base : List Step) → (ListName.accessors ≡ named → suits rule rows ≡ true) → All (Apart named old) (in_members ts rows animation)
      → rule_faults rule ts (under rules new) base ≡ rule_faults rule ts (under rules old) base
  rule_same needs_positions rows ts animation base suited off = positions_same (entries_in (primitive_attributes ts)) _ (λ is. attributes_apart rows ts animation (suited is) off)
  rule_same rule rows ts animation base suited off = refl

  object_same : (rule : Rule) (rows : Rows) (t animation : Tree) (base : List Step) → (ListName.accessors ≡ named → suits rule rows ≡ true) → All (Apart named old) (in_members (members_in t) rows animation)
      → object_faults t rule (under rules new) base ≡ object_faults t rule (under rules old) base
  object_same rule rows (tree.object ts others) animation base suited off = rule_same rule rows ts animation base suited off
  object_same rule rows t animation base suited off = refl

  -- ---- a whole tree

  mutual
    -- the law, at every kind and place; the references are those in one animation, the reports
    -- those in another
    pub reports_same : (kind : Kind) (t animation above : Tree) (base : List Step) → (ListName.accessors ≡ named → is_sound kind ≡ true) → All (Apart named old) (references kind t animation)
        → reports kind t (under rules new) above base ≡ reports kind t (under rules old) above base
    reports_same (IndexInto other) t animation above base sound off = index_same other t base off
    reports_same SourceImage t animation above base sound off = source_same t base off
    reports_same (Attributes other) t animation above base sound off = entries_same other (entries_in t) base off
    reports_same (ListOf kind) t animation above base sound off =
        items_same (λ y. reports kind y (under rules new) above) (λ y. reports kind y (under rules old) above) (λ y. references kind y animation)
        (λ y at h. reports_same kind y animation above at sound h) 0 (items_in t) base off
    reports_same (Object rule rows keeps) t animation above base sound off =
        let inner = animation_of rule t animation in
        joined (members_same (members_in t) rows inner (animation_below rule t above) base (λ is. (and_parts (suits rule rows) (are_sound rows) (sound is)).1) off)
        (object_same rule rows t inner base (λ is. (and_parts (suits rule rows) (are_sound rows) (sound is)).0) off)
    reports_same kind t animation above base sound off = refl

    members_same : (ts : Trees) (rows : Rows) (animation above : Tree) (base : List Step) → (ListName.accessors ≡ named → are_sound rows ≡ true) → All (Apart named old) (in_members ts rows animation)
        → member_reports ts rows (under rules new) above base ≡ member_reports ts rows (under rules old) above base
    members_same end rows animation above base sound off = refl
    members_same (with_tree t ts) no_rows animation above base sound off = refl
    members_same (with_tree t ts) (row name mark kind rows) animation above base sound off =
        joined
        (reports_same kind t animation above (base ++ field name ∷ []) (λ is. (sound_row name mark kind rows (sound is)).inner) (first_all (Apart named old) (references kind t animation) (in_members ts rows animation) off))
        (members_same ts rows animation above base (λ is. (sound_row name mark kind rows (sound is)).rest) (second_all (Apart named old) (references kind t animation) (in_members ts rows animation) off))
