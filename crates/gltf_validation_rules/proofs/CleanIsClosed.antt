-- What has no report is closed.
use Rattle.std.proofs.Common.{◌≡◌, ℕ, suc, ◌<◌, List, [], ◌∷◌, ◌++◌, Bool, true, false, not, cond, nat_lt, nat_eq, refl, subst}
use Rattle.std.proofs.lemmas.Bool.{ltb-true}
use Rattle.std.proofs.lemmas.List.Elements.{All-nil, All-append}
use Rattle.std.specs.List.{All, flat_map}
use Rattle.gltf_base.specs.Keys.{Key, key_text}
use Rattle.gltf_base.specs.Keys as keys
use Rattle.gltf_base.specs.Lists.{ListName}
use Rattle.gltf_base.specs.Steps.{Step, field, item, key}
use Rattle.gltf_base.specs.declared.validation.Error.TheVariants.{IndexOutOfBounds, Missing}
use Rattle.gltf_schema.specs.Invalid.{is_unknown}
use Rattle.gltf_schema.specs.Tree as tree
use Rattle.gltf_schema.specs.Tree.{Tree, Trees, end, with_tree, items_in, members_in, entries_in}
use Rattle.gltf_schema.specs.Kind.{Kind, IndexInto, SourceImage, ChannelSampler, Choice, Attributes, ListOf, Object, Rows, no_rows, row, Rule, holds_samplers}
use Rattle.gltf_parts.specs.Texture.{no_image}
use Rattle.gltf_root.specs.Lists.{count_in, sampler_count}
use Rattle.gltf_validation_rules.specs.Report.{From, report}
use Rattle.gltf_validation_rules.specs.Context.{Context}
use Rattle.gltf_validation_rules.specs.Faults.{report_if, number_faults, index_faults, source_faults, choice_faults, key_faults, entries_faults, items_reports}
use Rattle.gltf_validation_rules.specs.Rules.{object_faults}
use Rattle.gltf_validation_rules.specs.Reports.{animation_below, reports, member_reports}
use Rattle.gltf_validation_rules.specs.References.{Reference, item_of, sampler_of, missing_image, unlisted, image_of, in_index, in_choice, in_entry, in_items, animation_of, references, in_members}
use Rattle.gltf_validation_rules.specs.Closed.{Resolves, IsClosed}
use Rattle.gltf_validation_rules.proofs.TwoParts.{first_none, second_none, all_one}

below_at : (b : Bool) (n count : ℕ) (base : List Step) → nat_lt n count ≡ b → cond (not b) (report base IndexOutOfBounds ∷ []) [] ≡ [] → n < count
below_at true n count base is h = ltb-true n count is
below_at false n count base is h = absurd cc

below : (count n : ℕ) (base : List Step) → number_faults count n base ≡ [] → n < count
below count n base h = below_at _ n count base refl h

may_be_missing : (b : Bool) (base : List Step) → report_if (not b) Missing base ≡ [] → b ≡ true
may_be_missing true base h = refl
may_be_missing false base h = absurd cc

-- the two definitions of the animation that members stand in are the same
same_animation : (rule : Rule) (t around : Tree) → animation_below rule t around ≡ animation_of rule t around
same_animation holds_samplers t around = refl
same_animation rule t around = refl

module _ (context : Context) where
  index_resolves : (f : ℕ → Reference) (count : ℕ) → ((n : ℕ) → n < count → Resolves context (f n))
      → (t : Tree) (base : List Step) → index_faults count t base ≡ [] → All (Resolves context) (in_index f t)
  index_resolves f count each (tree.index n) base h = all_one (Resolves context) (f n) (each n (below count n base h))
  index_resolves f count each t base h = All-nil (Resolves context)

  image_resolves : (is_none : Bool) (n : ℕ) (base : List Step)
      → cond is_none (report_if (not context.rules.empty_texture) Missing base) (number_faults (count_in ListName.images context.root) n base) ≡ []
      → Resolves context (cond is_none missing_image (item_of ListName.images n))
  image_resolves true n base h = may_be_missing context.rules.empty_texture base h
  image_resolves false n base h = below (count_in ListName.images context.root) n base h

  source_resolves : (t : Tree) (base : List Step) → source_faults context.rules.empty_texture (count_in ListName.images context.root) t base ≡ []
      → All (Resolves context) (in_index image_of t)
  source_resolves (tree.index n) base h = all_one (Resolves context) (image_of n) (image_resolves (nat_eq n no_image) n base h)
  source_resolves t base h = All-nil (Resolves context)

  choice_resolves : (t : Tree) (base : List Step) → choice_faults t base ≡ [] → All (Resolves context) (in_choice t)
  choice_resolves tree.invalid base h = absurd cc
  choice_resolves t base h = All-nil (Resolves context)

  key_resolves : (k : Key) (base : List Step) → key_faults k base ≡ [] → All (Resolves context) (cond (is_unknown k) (unlisted ∷ []) [])
  key_resolves keys.unknown base h = absurd cc
  key_resolves k base h = All-nil (Resolves context)

  entries_resolve : (named : ListName) (es : List (Key × ℕ)) (base : List Step) → entries_faults (count_in named context.root) es base ≡ []
      → All (Resolves context) (flat_map (in_entry named) es)
  entries_resolve named [] base h = All-nil (Resolves context)
  entries_resolve named (e ∷ es) base h =
      let at = base ++ key (key_text e.0) ∷ [] in
      let count = count_in named context.root in
      let both = first_none (key_faults e.0 at ++ number_faults count e.1 at) (entries_faults count es base) h in
      let of_key = key_resolves e.0 at (first_none (key_faults e.0 at) (number_faults count e.1 at) both) in
      let of_index : Resolves context (item_of named e.1) = below count e.1 at (second_none (key_faults e.0 at) (number_faults count e.1 at) both) in
      All-append (Resolves context) (in_entry named e) (flat_map (in_entry named) es)
      (All-append (Resolves context) (cond (is_unknown e.0) (unlisted ∷ []) []) (item_of named e.1 ∷ []) of_key (all_one (Resolves context) (item_of named e.1) of_index))
      (entries_resolve named es base (second_none (key_faults e.0 at ++ number_faults count e.1 at) (entries_faults count es base) h))

  items_resolve : (f : Tree → From) (g : Tree → List Reference) → ((t : Tree) (base : List Step) → f t base ≡ [] → All (Resolves context) (g t))
      → (i : ℕ) (ts : Trees) (base : List Step) → items_reports f i ts base ≡ [] → All (Resolves context) (in_items g ts)
  items_resolve f g each i end base h = All-nil (Resolves context)
  items_resolve f g each i (with_tree t ts) base h =
      All-append (Resolves context) (g t) (in_items g ts)
      (each t (base ++ item i ∷ []) (first_none (f t (base ++ item i ∷ [])) (items_reports f (suc i) ts base) h))
      (items_resolve f g each (suc i) ts base (second_none (f t (base ++ item i ∷ [])) (items_reports f (suc i) ts base) h))

  mutual
    -- the law, at every kind and place
    pub clean_is_closed : (kind : Kind) (t animation : Tree) (base : List Step) → reports kind t context animation base ≡ [] → IsClosed kind t context animation
    clean_is_closed (IndexInto named) t animation base h = index_resolves (λ n. item_of named n) (count_in named context.root) (λ n l. l) t base h
    clean_is_closed SourceImage t animation base h = source_resolves t base h
    clean_is_closed ChannelSampler t animation base h = index_resolves (λ n. sampler_of animation n) (sampler_count animation) (λ n l. l) t base h
    clean_is_closed (Choice form spellings) t animation base h = choice_resolves t base h
    clean_is_closed (Attributes named) t animation base h = entries_resolve named (entries_in t) base h
    clean_is_closed (ListOf kind) t animation base h =
        items_resolve (λ x. reports kind x context animation) (λ x. references kind x animation) (λ x at e. clean_is_closed kind x animation at e) 0 (items_in t) base h
    clean_is_closed (Object rule rows keeps) t animation base h =
        let inner = animation_below rule t animation in
        subst (λ a. All (Resolves context) (in_members (members_in t) rows a)) (same_animation rule t animation)
        (members_resolve (members_in t) rows inner base (first_none (member_reports (members_in t) rows context inner base) (object_faults t rule context base) h))
    clean_is_closed kind t animation base h = All-nil (Resolves context)

    members_resolve : (ts : Trees) (rows : Rows) (animation : Tree) (base : List Step) → member_reports ts rows context animation base ≡ []
        → All (Resolves context) (in_members ts rows animation)
    members_resolve end rows animation base h = All-nil (Resolves context)
    members_resolve (with_tree t ts) no_rows animation base h = All-nil (Resolves context)
    members_resolve (with_tree t ts) (row n mark kind rows) animation base h =
        let at = base ++ field n ∷ [] in
        All-append (Resolves context) (references kind t animation) (in_members ts rows animation)
        (clean_is_closed kind t animation at (first_none (reports kind t context animation at) (member_reports ts rows context animation base) h))
        (members_resolve ts rows animation base (second_none (reports kind t context animation at) (member_reports ts rows context animation base) h))
