-- What a node wants is what its kind is read from, and a place that is refused has a kind.
use Rattle.std.proofs.lemmas.List.{drop_more}
use Rattle.gltf_schema.specs.RowPlacing.{owned_step}
use Rattle.gltf_schema.specs.declared.placing.OwnedStep.{OwnedStep}
use Rattle.std.proofs.Common.{◌≡◌, ◌++◌, ◌+◌, ◌<◌, get_or, drop, length, map, ℕ, List, [], ◌∷◌, Bool, true, false, Option, Some, None, Result, Ok, Err, option_map, refl, ap, ◌∙◌, subst, sym, true≢false}
use Rattle.std.specs.Prelude.{⊤, slice_get, ◌||◌, if◌then◌else◌, is_none}
use Rattle.std.specs.Str.{bytes_eq}
use Rattle.gltf_base.specs.Steps.{Step, field, item, key, value}
use Rattle.gltf_base.specs.declared.choice.Form.TheVariants as forms
use Rattle.std.proofs.lemmas.Slice.Eq.{bytes_eq-Decides}
use Rattle.serde_json.specs.Data.{Data, Members}
use Rattle.serde_json.specs.Find.{get_member, as_object}
use Rattle.gltf_schema.specs.Maybe.{◌>>=◌}
use Rattle.gltf_schema.specs.Tree.{Tree}
use Rattle.gltf_schema.specs.Read.{read, read_member}
use Rattle.gltf_schema.specs.Refused.{IsMissingOr, IsRefusedAt, refused_row}
use Rattle.gltf_schema.specs.Sound.{is_sound, are_sound}
use Rattle.gltf_schema.proofs.TakingOut.{sound_row, sound_rows}
use Rattle.gltf_schema.specs.Kind.{Kind, Mark, Rule, Rows, no_rows, row, has_row}
use Rattle.gltf_schema.specs.Kind as kinds
use Rattle.gltf_schema.specs.Outline.{IsShapeOf, AreMembersOf}
use Rattle.gltf_schema.specs.declared.outline.Member.{Member}
use Rattle.gltf_schema.specs.declared.outline.Shape.{Shape}
use Rattle.gltf_schema.specs.declared.outline.Shape.TheVariants as shapes
use Rattle.serde_json.specs.Read.{read as read_json}
use Rattle.gltf_base.specs.declared.error.Error.{Error}
use Rattle.gltf_root.specs.Mismatch.{IsFoundThere, IsMismatchAt, IsMismatchIn}
use Rattle.gltf_root.specs.declared.mismatch.Mismatch.{Mismatch}
use Rattle.gltf_root.specs.declared.wanted.Wanted.{Wanted}
use Rattle.gltf_root.specs.Wanted.{row_kind, kind_within, kind_at, wanted_of, shape_wanted}
use Rattle.gltf_root.specs.NodesWithin.{member_value, node_within, node_at}

-- ---- steps

-- the first step of those that are left leads on
pub leads_on : (nodes : List Shape) (steps : List OwnedStep) (i at : ℕ) (x : OwnedStep) → i < length steps → x ≡ get_or steps i x
    → node_at nodes at (map owned_step (drop i steps)) ≡ ((slice_get nodes at >>= λ s. node_within s (owned_step x)) >>= λ j. node_at nodes j (map owned_step (drop (i + 1) steps)))
leads_on nodes steps i at x less is = ap (λ l. node_at nodes at (map owned_step l)) (drop_more steps i x less ∙ ap (λ y. y ∷ drop (i + 1) steps) (sym is))

-- ---- nodes and kinds

pub node_wants : (kind : Kind) (nodes : List Shape) (i : ℕ) → IsShapeOf nodes i kind → option_map shape_wanted (slice_get nodes i) ≡ Some (wanted_of kind)
node_wants (kinds.IndexInto l) nodes i h = ap (option_map shape_wanted) h
node_wants kinds.SourceImage nodes i h = ap (option_map shape_wanted) h
node_wants kinds.ChannelSampler nodes i h = ap (option_map shape_wanted) h
node_wants kinds.U32 nodes i h = ap (option_map shape_wanted) h
node_wants kinds.U64 nodes i h = ap (option_map shape_wanted) h
node_wants kinds.Stride nodes i h = ap (option_map shape_wanted) h
node_wants kinds.Number nodes i h = ap (option_map shape_wanted) h
node_wants (kinds.Numbers n) nodes i h = ap (option_map shape_wanted) h.1
node_wants kinds.Text nodes i h = ap (option_map shape_wanted) h
node_wants kinds.Truth nodes i h = ap (option_map shape_wanted) h
node_wants kinds.Any nodes i h = ap (option_map shape_wanted) h
node_wants (kinds.Choice forms.Number names) nodes i h = ap (option_map shape_wanted) h
node_wants (kinds.Choice forms.Name names) nodes i h = ap (option_map shape_wanted) h
node_wants (kinds.Attributes l) nodes i h = ap (option_map shape_wanted) h.1
node_wants (kinds.ListOf kind) nodes i h = ap (option_map shape_wanted) h.1
node_wants (kinds.Object rule rows keeps) nodes i h = ap (option_map shape_wanted) h.1

-- the node of what a step leads to is of its kind
abbrev HasNode : List Shape → Option ℕ → Option Kind → Type 0
HasNode nodes o None = ⊤
HasNode nodes o (Some k) = (j : ℕ) × (o ≡ Some j) × IsShapeOf nodes j k

member_step : (b : Bool) (nodes : List Shape) (m : Member) (kind : Kind) (rest : Option ℕ) (kinds_rest : Option Kind) → IsShapeOf nodes m.value kind → HasNode nodes rest kinds_rest
    → HasNode nodes (if b then Some m.value else rest) (if b then Some kind else kinds_rest)
member_step true nodes m kind rest kinds_rest own behind = (m.value, refl, own)
member_step false nodes m kind rest kinds_rest own behind = behind

members_within : (n : List ℕ) (nodes : List Shape) (ms : List Member) (rows : Rows) → AreMembersOf nodes ms rows → HasNode nodes (member_value n ms) (row_kind n rows)
members_within n nodes [] no_rows h = tt
members_within n nodes (m ∷ ms) no_rows h = absurd h
members_within n nodes [] (row r mark kind rows) h = absurd h
members_within n nodes (m ∷ ms) (row r mark kind rows) h =
    subst (λ l. HasNode nodes (if bytes_eq m.name.now n then Some m.value else member_value n ms) (if bytes_eq l n then Some kind else row_kind n rows)) h.0
    (member_step (bytes_eq m.name.now n) nodes m kind (member_value n ms) (row_kind n rows) h.2 (members_within n nodes ms rows h.3))

by_shape : (nodes : List Shape) (o : Option Shape) (s : Shape) (step : Step) (k : Option Kind) → o ≡ Some s → HasNode nodes (node_within s step) k → HasNode nodes (o >>= λ x. node_within x step) k
by_shape nodes o s step k e h = subst (λ p. HasNode nodes (p >>= λ x. node_within x step) k) (sym e) h

step_within : (kind : Kind) (step : Step) (nodes : List Shape) (i : ℕ) → IsShapeOf nodes i kind
    → HasNode nodes (slice_get nodes i >>= λ s. node_within s step) (kind_within kind step)
step_within (kinds.ListOf kind) (item n) nodes i h = by_shape nodes (slice_get nodes i) _ (item n) (Some kind) h.1 (h.0, refl, h.2)
step_within (kinds.Numbers c) (item n) nodes i h = by_shape nodes (slice_get nodes i) _ (item n) (Some kinds.Number) h.1 (h.0, refl, h.2)
step_within (kinds.Attributes l) (field n) nodes i h = by_shape nodes (slice_get nodes i) _ (field n) (Some (kinds.IndexInto l)) h.1 (h.0, refl, h.2)
step_within (kinds.Object rule rows keeps) (field n) nodes i h = by_shape nodes (slice_get nodes i) _ (field n) (row_kind n rows) h.1 (members_within n nodes h.0.items rows h.2)
step_within _ _ nodes i h = tt

step_behind : (nodes : List Shape) (steps : List Step) (o : Option ℕ) (k : Option Kind)
    → ((x : Kind) (j : ℕ) → IsShapeOf nodes j x → HasNode nodes (node_at nodes j steps) (kind_at x steps))
    → HasNode nodes o k → HasNode nodes (o >>= λ j. node_at nodes j steps) (k >>= λ x. kind_at x steps)
step_behind nodes steps o None later here = tt
step_behind nodes steps o (Some x) later here = subst (λ p. HasNode nodes (p >>= λ j. node_at nodes j steps) (kind_at x steps)) (sym here.1) (later x here.0 here.2)

pub steps_within : (steps : List Step) (kind : Kind) (nodes : List Shape) (i : ℕ) → IsShapeOf nodes i kind → HasNode nodes (node_at nodes i steps) (kind_at kind steps)
steps_within [] kind nodes i h = (i, refl, h)
steps_within (step ∷ steps) kind nodes i h =
    step_behind nodes steps (slice_get nodes i >>= λ s. node_within s step) (kind_within kind step) (λ x j own. steps_within steps x nodes j own) (step_within kind step nodes i h)

-- what is wanted there
pub wanted_there : (steps : List Step) (kind k : Kind) (nodes : List Shape) (i : ℕ) → IsShapeOf nodes i kind → kind_at kind steps ≡ Some k
    → option_map shape_wanted (node_at nodes i steps >>= slice_get nodes) ≡ Some (wanted_of k)
wanted_there steps kind k nodes i h e =
    let there = subst (HasNode nodes (node_at nodes i steps)) e (steps_within steps kind nodes i h) in
    ap (λ o. option_map shape_wanted (o >>= slice_get nodes)) there.1 ∙ node_wants k nodes there.0 there.2

-- ---- a place that is refused has a kind

abbrev RowFound : List ℕ → Kind → Rows → Type 0
RowFound n k rows = (row_kind n rows ≡ Some k) × (is_sound k ≡ true) × (has_row n rows ≡ true)

found_at : (o : Option Tree) (b : Bool) (m n : List ℕ) (mark : Mark) (kind k : Kind) (rows : Rows) (r : Option (List ℕ × Kind))
    → bytes_eq m n ≡ b → has_row m rows ≡ false → is_sound kind ≡ true → (if is_none o then Some (m, kind) else r) ≡ Some (n, k)
    → (r ≡ Some (n, k) → RowFound n k rows) → RowFound n k (row m mark kind rows)
found_at None true m n mark kind k rows r e apart sound is later =
    let pair : (m, kind) ≡ (n, k) = cc in
    let same : kind ≡ k = ap (λ (x : List ℕ × Kind). x.1) pair in
    (ap (λ c. if c then Some kind else row_kind n rows) e ∙ ap Some same, subst (λ x. is_sound x ≡ true) same sound, ap (λ c. c || has_row n rows) e)
found_at None false m n mark kind k rows r e apart sound is later =
    let pair : (m, kind) ≡ (n, k) = cc in
    let same : m ≡ n = ap (λ (x : List ℕ × Kind). x.0) pair in
    absurd (true≢false (sym ((bytes_eq-Decides m n).1 same) ∙ e))
found_at (Some t) true m n mark kind k rows r e apart sound is later =
    let same : m ≡ n = (bytes_eq-Decides m n).0 e in
    absurd (true≢false (sym (later is).2 ∙ ap (λ l. has_row l rows) (sym same) ∙ apart))
found_at (Some t) false m n mark kind k rows r e apart sound is later =
    (ap (λ c. if c then Some kind else row_kind n rows) e ∙ (later is).0, (later is).1, ap (λ c. c || has_row n rows) e ∙ (later is).2)

refused_row_found : (rows : Rows) (ms : Members) (n : List ℕ) (k : Kind) → are_sound rows ≡ true → refused_row rows ms ≡ Some (n, k) → RowFound n k rows
unfolding refused_row
refused_row_found no_rows ms n k sound is = absurd cc
refused_row_found (row m mark kind rows) ms n k sound is =
    let line = sound_row m mark kind rows sound in
    found_at (read_member mark (read kind) (get_member m ms)) (bytes_eq m n) m n mark kind k rows (refused_row rows ms) refl line.apart line.inner is (refused_row_found rows ms n k line.rest)

refused_in_found : (o : Option Members) (rows : Rows) (n : List ℕ) (k : Kind) → are_sound rows ≡ true → (o >>= refused_row rows) ≡ Some (n, k) → RowFound n k rows
refused_in_found None rows n k sound is = absurd cc
refused_in_found (Some ms) rows n k sound is = refused_row_found rows ms n k sound is

abbrev HasKind : Kind → List Step → Type 0
HasKind kind steps = (k : Kind) × (kind_at kind steps ≡ Some k)

missing_or : (kind : Kind) (steps : List Step) (o : Option Data) → ((d : Data) → IsRefusedAt steps kind d → HasKind kind steps) → IsMissingOr steps (λ x. IsRefusedAt steps kind x) o → HasKind kind steps
missing_or kind steps None later h = subst (HasKind kind) (sym h) (kind, refl)
missing_or kind steps (Some d) later h = later d h

behind_row : (rule : Rule) (rows : Rows) (keeps : Bool) (n : List ℕ) (k : Kind) (steps : List Step) → row_kind n rows ≡ Some k → HasKind k steps → HasKind (kinds.Object rule rows keeps) (field n ∷ steps)
behind_row rule rows keeps n k steps e h = (h.0, ap (λ o. o >>= λ x. kind_at x steps) e ∙ h.1)

pub refused_has_kind : (steps : List Step) (kind : Kind) (d : Data) → is_sound kind ≡ true → IsRefusedAt steps kind d → HasKind kind steps
refused_has_kind [] kind d sound h = (kind, refl)
refused_has_kind (item i ∷ steps) (kinds.ListOf kind) d sound h = refused_has_kind steps kind h.0 sound h.2
refused_has_kind (item i ∷ steps) (kinds.Numbers n) d sound h = refused_has_kind steps kinds.Number h.0 refl h.2
refused_has_kind (field n ∷ steps) (kinds.Attributes l) d sound h = refused_has_kind steps (kinds.IndexInto l) h.0 refl h.2
refused_has_kind (field n ∷ steps) (kinds.Object rule rows keeps) d sound h =
    let found = refused_in_found (as_object d) rows n h.0 (sound_rows rule rows sound) h.1 in
    behind_row rule rows keeps n h.0 steps found.0 (missing_or h.0 steps (as_object d >>= get_member n) (λ x r. refused_has_kind steps h.0 x found.1 r) h.2)
refused_has_kind _ _ d sound h = absurd h

-- ---- what is said of a place

pub none_wanted : (steps : List Step) (kind : Kind) (nodes : List Shape) (i : ℕ) → IsShapeOf nodes i kind → None ≡ option_map shape_wanted (node_at nodes i steps >>= slice_get nodes)
    → (there : Kind) → kind_at kind steps ≡ Some there → ⊥
none_wanted steps kind nodes i h e there at =
    let w = e ∙ wanted_there steps kind there nodes i h at in
    absurd cc

pub wanted_is : (steps : List Step) (kind : Kind) (nodes : List Shape) (i : ℕ) (wanted : Wanted) → IsShapeOf nodes i kind → Some wanted ≡ option_map shape_wanted (node_at nodes i steps >>= slice_get nodes)
    → (there : Kind) → kind_at kind steps ≡ Some there → wanted ≡ wanted_of there
wanted_is steps kind nodes i wanted h e there at =
    let w = e ∙ wanted_there steps kind there nodes i h at in
    cc

found_in : (d d' : Data) (s : List ℕ) (m : Mismatch) → read_json s ≡ Some d → read_json s ≡ Some d' → IsFoundThere d' m → IsFoundThere d m
found_in d d' s m e e' h =
    let both : Some d' ≡ Some d = sym e' ∙ e in
    let same : d' ≡ d = cc in
    subst (λ x. IsFoundThere x m) same h

-- a place that is refused has a kind, and what is said of the end of its steps is said of the text
pub mismatch_from : (kind : Kind) (s : List ℕ) (d : Data) (steps : List Step) (r : Result (Option Mismatch) Error) → is_sound kind ≡ true → read_json s ≡ Some d → IsRefusedAt steps kind d
    → IsMismatchAt kind s steps r → IsMismatchIn kind s r
mismatch_from kind s d steps (Ok None) sound is refused h =
    let there = refused_has_kind steps kind d sound refused in
    absurd (h there.0 there.1)
mismatch_from kind s d steps (Ok (Some m)) sound is refused h =
    let there = refused_has_kind steps kind d sound refused in
    (d, is, (steps, refused, h.0, there.0, there.1, h.1 there.0 there.1, found_in d h.2 s m is h.3 h.4))
mismatch_from kind s d steps (Err e) sound is refused h = h
