-- A document without reports whose list lacks its last item: only what has indexes into the list can have reports.
use Rattle.std.proofs.Common.{◌≡◌, ℕ, zero, suc, List, [], ◌∷◌, ◌++◌, Bool, true, false, cond, ◌||◌, nat_eq, refl, sym, ◌∙◌, ap, subst}
use Rattle.std.proofs.lemmas.Bool.{eqb-false, or_parts}
use Rattle.std.proofs.lemmas.List.Elements.{All-append, All-nil}
use Rattle.std.specs.List.{All, flat_map}
use Rattle.gltf_base.specs.Keys.{Key}
use Rattle.gltf_base.specs.Lists.{ListName}
use Rattle.gltf_base.specs.Steps.{Step, field, item}
use Rattle.gltf_schema.proofs.TakingOut.{sound_row}
use Rattle.gltf_schema.specs.Invalid.{is_unknown}
use Rattle.gltf_schema.specs.Kind.{Kind, IndexInto, SourceImage, ChannelSampler, Choice, Attributes, ListOf, Object, Rows, no_rows, row}
use Rattle.gltf_schema.specs.Sound.{is_sound, are_sound}
use Rattle.gltf_schema.specs.Tree as tree
use Rattle.gltf_schema.specs.Tree.{Tree, Trees, absent, end, with_tree, tree_at, items_in, members_in, entries_in}
use Rattle.gltf_parts.specs.Texture.{no_image}
use Rattle.gltf_root.specs.Lists.{count_in}
use Rattle.gltf_root.specs.Named.{put_at}
use Rattle.gltf_root.specs.Pushed.{with_last}
use Rattle.gltf_validation_rules.specs.Report.{From}
use Rattle.gltf_validation_rules.specs.Context.{Context, Rules, under}
use Rattle.gltf_validation_rules.specs.Faults.{items_reports}
use Rattle.gltf_validation_rules.specs.References.{Reference, item_of, sampler_of, missing_image, unlisted, image_of, in_index, in_choice, in_entry, in_items, animation_of, references, in_members}
use Rattle.gltf_validation_rules.specs.Reports.{member_reports, reports}
use Rattle.gltf_validation_rules.proofs.Inserting.{kind_at}
use Rattle.gltf_validation_rules.proofs.LongerLists.{Grows}
use Rattle.gltf_validation_rules.proofs.Pushes.{Apart, reports_same}
use Rattle.gltf_validation_rules.proofs.TwoParts.{all_one, first_none, joined, second_none}

-- ---- kinds whose values can't refer to an item of a list

abbrev number_of : ListName → ℕ
number_of ListName.accessors = 0
number_of ListName.animations = 1
number_of ListName.buffers = 2
number_of ListName.buffer_views = 3
number_of ListName.cameras = 4
number_of ListName.images = 5
number_of ListName.materials = 6
number_of ListName.meshes = 7
number_of ListName.nodes = 8
number_of ListName.samplers = 9
number_of ListName.scenes = 10
number_of ListName.skins = 11
number_of ListName.textures = 12
number_of ListName.lights = 13
number_of ListName.variants = 14

abbrev same_name : ListName → ListName → Bool
same_name a b = nat_eq (number_of a) (number_of b)

abbrev mutual
  -- whether a value of a kind may refer to an item of a list
  pub refers : ListName → Kind → Bool
  refers named (IndexInto other) = same_name other named
  refers named SourceImage = same_name ListName.images named
  refers named (Attributes other) = same_name other named
  refers named (ListOf kind) = refers named kind
  refers named (Object rule rows keeps) = any_refers named rows
  refers named _ = false

  pub any_refers : ListName → Rows → Bool
  any_refers named no_rows = false
  any_refers named (row name mark kind rows) = refers named kind || any_refers named rows

same_list : (a b : ListName) (m n : ℕ) → item_of a m ≡ item_of b n → a ≡ b
same_list a b m n e = cc

module _ (named : ListName) (root : Tree) where
  item_apart : (other : ListName) (n : ℕ) → same_name other named ≡ false → Apart named root (item_of other n)
  item_apart other n off = λ e. eqb-false (number_of other) (number_of named) off (ap number_of (same_list other named n (count_in named root) e))

  sampler_apart : (animation : Tree) (n : ℕ) → Apart named root (sampler_of animation n)
  sampler_apart animation n = λ e. cc

  missing_apart : Apart named root missing_image
  missing_apart = λ e. cc

  unlisted_apart : Apart named root unlisted
  unlisted_apart = λ e. cc

  one : (r : Reference) → Apart named root r → All (Apart named root) (r ∷ [])
  one r off = all_one (Apart named root) r off

  none : All (Apart named root) []
  none = All-nil (Apart named root)

  both : (rs qs : List Reference) → All (Apart named root) rs → All (Apart named root) qs → All (Apart named root) (rs ++ qs)
  both rs qs = All-append (Apart named root) rs qs

  image_apart : (is_none : Bool) (n : ℕ) → same_name ListName.images named ≡ false → Apart named root (cond is_none missing_image (item_of ListName.images n))
  image_apart true n off = missing_apart
  image_apart false n off = item_apart ListName.images n off

  index_apart : (f : ℕ → Reference) (t : Tree) → ((n : ℕ) → Apart named root (f n)) → All (Apart named root) (in_index f t)
  index_apart f (tree.index n) off = one (f n) (off n)
  index_apart f t off = none

  choice_apart : (t : Tree) → All (Apart named root) (in_choice t)
  choice_apart tree.invalid = one unlisted unlisted_apart
  choice_apart t = none

  unknown_apart : (b : Bool) → All (Apart named root) (cond b (unlisted ∷ []) [])
  unknown_apart true = one unlisted unlisted_apart
  unknown_apart false = none

  entries_apart : (other : ListName) (es : List (Key × ℕ)) → same_name other named ≡ false → All (Apart named root) (flat_map (in_entry other) es)
  entries_apart other [] off = none
  entries_apart other (e ∷ es) off =
      both (in_entry other e) (flat_map (in_entry other) es)
      (both (cond (is_unknown e.0) (unlisted ∷ []) []) (item_of other e.1 ∷ []) (unknown_apart (is_unknown e.0)) (one (item_of other e.1) (item_apart other e.1 off)))
      (entries_apart other es off)

  items_apart : (f : Tree → List Reference) (ts : Trees) → ((t : Tree) → All (Apart named root) (f t)) → All (Apart named root) (in_items f ts)
  items_apart f end each = none
  items_apart f (with_tree t ts) each = both (f t) (in_items f ts) (each t) (items_apart f ts each)

  mutual
    kind_apart : (kind : Kind) (t animation : Tree) → refers named kind ≡ false → All (Apart named root) (references kind t animation)
    kind_apart (IndexInto other) t animation off = index_apart (λ n. item_of other n) t (λ n. item_apart other n off)
    kind_apart SourceImage t animation off = index_apart image_of t (λ n. image_apart (nat_eq n no_image) n off)
    kind_apart ChannelSampler t animation off = index_apart (λ n. sampler_of animation n) t (sampler_apart animation)
    kind_apart (Choice form spellings) t animation off = choice_apart t
    kind_apart (Attributes other) t animation off = entries_apart other (entries_in t) off
    kind_apart (ListOf kind) t animation off = items_apart (λ x. references kind x animation) (items_in t) (λ x. kind_apart kind x animation off)
    kind_apart (Object rule rows keeps) t animation off = rows_apart (members_in t) rows (animation_of rule t animation) off
    kind_apart kind t animation off = none

    rows_apart : (ts : Trees) (rows : Rows) (animation : Tree) → any_refers named rows ≡ false → All (Apart named root) (in_members ts rows animation)
    rows_apart end rows animation off = none
    rows_apart (with_tree t ts) no_rows animation off = none
    rows_apart (with_tree t ts) (row name mark kind rows) animation off =
        let parts = or_parts (refers named kind) (any_refers named rows) off in
        both (references kind t animation) (in_members ts rows animation) (kind_apart kind t animation parts.0) (rows_apart ts rows animation parts.1)

-- ---- the members of an object that may refer to an item of a list

-- whether the kind of each row may
abbrev pub flags : ListName → Rows → List Bool
flags named no_rows = []
flags named (row name mark kind rows) = refers named kind ∷ flags named rows

-- the reports of the members that are flagged
abbrev pub flagged_reports : List Bool → Trees → Rows → Context → From
flagged_reports (b ∷ bs) (with_tree t ts) (row name mark kind rows) context base =
    cond b (reports kind t context absent (base ++ field name ∷ [])) [] ++ flagged_reports bs ts rows context base
flagged_reports bs ts rows context base = []

-- what has no report with an item at the end has none without
items_less : (f : Tree → From) (i : ℕ) (x : Tree) (ts : Trees) (base : List Step) → items_reports f i (with_last x ts) base ≡ [] → items_reports f i ts base ≡ []
items_less f i x end base h = refl
items_less f i x (with_tree t ts) base h =
    let here = f t (base ++ item i ∷ []) in
    joined (first_none here (items_reports f (suc i) (with_last x ts) base) h) (items_less f (suc i) x ts base (second_none here (items_reports f (suc i) (with_last x ts) base) h))

module _ (rules : Rules) (named : ListName) (x old new : Tree) (grown : Grows named x old new) where
  -- a member that has no report in the longer document
  member_kept : (b : Bool) (kind : Kind) (t : Tree) (base : List Step) → refers named kind ≡ b → (ListName.accessors ≡ named → is_sound kind ≡ true)
      → reports kind t (under rules new) absent base ≡ []
      → reports kind t (under rules old) absent base ≡ cond b (reports kind t (under rules old) absent base) []
  member_kept true kind t base is sound h = refl
  member_kept false kind t base is sound h =
      sym (reports_same rules named x old new grown kind t absent absent base sound (kind_apart named old kind t absent is)) ∙ h

  -- members that have no report in the longer document
  members_kept : (ts : Trees) (rows : Rows) (base : List Step) → (ListName.accessors ≡ named → are_sound rows ≡ true)
      → member_reports ts rows (under rules new) absent base ≡ []
      → member_reports ts rows (under rules old) absent base ≡ flagged_reports (flags named rows) ts rows (under rules old) base
  members_kept end no_rows base sound h = refl
  members_kept end (row name mark kind rows) base sound h = refl
  members_kept (with_tree t ts) no_rows base sound h = refl
  members_kept (with_tree t ts) (row name mark kind rows) base sound h =
      let here = reports kind t (under rules new) absent (base ++ field name ∷ []) in
      let rest = member_reports ts rows (under rules new) absent base in
      joined
      (member_kept (refers named kind) kind t (base ++ field name ∷ []) refl (λ is. (sound_row name mark kind rows (sound is)).inner) (first_none here rest h))
      (members_kept ts rows base (λ is. (sound_row name mark kind rows (sound is)).rest) (second_none here rest h))

  -- the same, where one of them is a list with one more item
  list_kept : (b : Bool) (kind : Kind) (t : Tree) (base : List Step) → refers named kind ≡ b → (ListName.accessors ≡ named → is_sound kind ≡ true)
      → reports (ListOf kind) (tree.list (with_last x (items_in t))) (under rules new) absent base ≡ []
      → reports (ListOf kind) t (under rules old) absent base ≡ cond b (reports (ListOf kind) t (under rules old) absent base) []
  list_kept true kind t base is sound h = refl
  list_kept false kind t base is sound h =
      member_kept false (ListOf kind) t base is sound (items_less (λ y. reports kind y (under rules new) absent) 0 x (items_in t) base h)

  pub shorter_kept : (n : ℕ) (ts : Trees) (rows : Rows) (kind : Kind) (base : List Step) → (ListName.accessors ≡ named → are_sound rows ≡ true)
      → kind_at n rows ≡ ListOf kind
      → member_reports (put_at n (tree.list (with_last x (items_in (tree_at n ts)))) ts) rows (under rules new) absent base ≡ []
      → member_reports ts rows (under rules old) absent base ≡ flagged_reports (flags named rows) ts rows (under rules old) base
  shorter_kept n end no_rows kind base sound is h = refl
  shorter_kept n end (row name mark other rows) kind base sound is h = refl
  shorter_kept n (with_tree t ts) no_rows kind base sound is h = refl
  shorter_kept zero (with_tree t ts) (row name mark other rows) kind base sound is h =
      let at = base ++ field name ∷ [] in
      let long = tree.list (with_last x (items_in t)) in
      let rest = member_reports ts rows (under rules new) absent base in
      let here = subst (λ k. reports k long (under rules new) absent at ≡ []) is (first_none (reports other long (under rules new) absent at) rest h) in
      let inner = λ (e : ListName.accessors ≡ named). subst (λ k. is_sound k ≡ true) is (sound_row name mark other rows (sound e)).inner in
      joined
      (subst (λ k. reports k t (under rules old) absent at ≡ cond (refers named k) (reports k t (under rules old) absent at) []) (sym is) (list_kept (refers named kind) kind t at refl inner here))
      (members_kept ts rows base (λ e. (sound_row name mark other rows (sound e)).rest) (second_none (reports other long (under rules new) absent at) rest h))
  shorter_kept (suc n) (with_tree t ts) (row name mark other rows) kind base sound is h =
      let here = reports other t (under rules new) absent (base ++ field name ∷ []) in
      let rest = member_reports (put_at n (tree.list (with_last x (items_in (tree_at n ts)))) ts) rows (under rules new) absent base in
      joined
      (member_kept (refers named other) other t (base ++ field name ∷ []) refl (λ e. (sound_row name mark other rows (sound e)).inner) (first_none here rest h))
      (shorter_kept n ts rows kind base (λ e. (sound_row name mark other rows (sound e)).rest) is (second_none here rest h))
