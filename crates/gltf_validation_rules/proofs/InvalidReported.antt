-- What is invalid in a tree is reported: each part of a tree, whatever its kind.
use Rattle.std.proofs.Common.{◌≡◌, ℕ, suc, List, [], ◌∷◌, ◌++◌, Bool, false, Option, Some, None, map, refl}
use Rattle.std.proofs.lemmas.Bool.{or_from}
use Rattle.std.specs.BTreeMap.{BTreeMap}
use Rattle.gltf_base.specs.Keys.{Key, unknown, key_text}
use Rattle.gltf_base.specs.Spelling.{Spelling}
use Rattle.gltf_base.specs.declared.choice.Form.{Form}
use Rattle.gltf_base.specs.declared.mesh.Semantic.{Semantic}
use Rattle.gltf_base.specs.declared.validation.Checked.{Checked}
use Rattle.gltf_base.specs.declared.validation.Checked.TheVariants.{Valid, Invalid}
use Rattle.gltf_base.specs.Lists.{ListName}
use Rattle.gltf_base.specs.Steps.{Step, field, item, key}
use Rattle.gltf_base.specs.declared.index.IndexTo.{IndexTo}
use Rattle.serde_json.specs.Data.{Members}
use Rattle.gltf_schema.specs.Fields.{attributes_tree, entry_of, list_tree}
use Rattle.gltf_schema.specs.Invalid.{is_unknown, any_unknown, holds_invalid, any_holds_invalid}
use Rattle.gltf_schema.specs.Kind.{Mark, Kind, Choice, Attributes, ListOf, Object, Rows, row, Rule}
use Rattle.gltf_schema.specs.Leaves.{checked_tree}
use Rattle.gltf_schema.specs.Tree.{Tree, object, Trees, end, with_tree, trees, tree_or_absent}
use Rattle.gltf_root.specs.Lists.{count_in}
use Rattle.gltf_validation_rules.specs.Context.{Context}
use Rattle.gltf_validation_rules.specs.Faults.{key_faults, number_faults, entries_faults, items_reports}
use Rattle.gltf_validation_rules.specs.Reports.{animation_below, reports, member_reports}
use Rattle.gltf_validation_rules.specs.Rules.{object_faults}
use Rattle.gltf_validation_rules.proofs.TwoParts.{first_none, second_none}

-- if a tree of a kind has no report, nothing in it is invalid: whatever it is checked against, and
-- wherever it is
pub record IsReported (kind : Kind) (t : Tree) : Type 0 where
  pub valid : (context : Context) (animation : Tree) (base : List Step) → reports kind t context animation base ≡ [] → holds_invalid t ≡ false

pub record AreReported (rows : Rows) (ts : Trees) : Type 0 where
  pub valid : (context : Context) (animation : Tree) (base : List Step) → member_reports ts rows context animation base ≡ [] → any_holds_invalid ts ≡ false

-- a tree in which nothing can be invalid
pub reported_valid : (kind : Kind) (t : Tree) → holds_invalid t ≡ false → IsReported kind t
reported_valid kind t h = record { valid = λ context animation base none. h }

pub reported_or_absent : {X : Type 0} (kind : Kind) (f : X → Tree) (o : Option X) → ((x : X) → IsReported kind (f x)) → IsReported kind (tree_or_absent f o)
reported_or_absent kind f None each = reported_valid kind _ refl
reported_or_absent kind f (Some x) each = each x

pub reported_choice : {X : Type 0} (form : Form) (spellings : List Spelling) (spell : X → Spelling) (x : Checked X) → IsReported (Choice form spellings) (checked_tree spell x)
reported_choice form spellings spell (Valid x) = reported_valid _ _ refl
reported_choice form spellings spell Invalid = record { valid = λ context animation base none. absurd cc }

key_reported : (k : Key) (base : List Step) → key_faults k base ≡ [] → is_unknown k ≡ false
key_reported unknown base h = absurd cc
key_reported k base h = refl

entries_reported : (count : ℕ) (es : List (Key × ℕ)) (base : List Step) → entries_faults count es base ≡ [] → any_unknown es ≡ false
entries_reported count [] base h = refl
entries_reported count (e ∷ es) base h =
    let at = base ++ key (key_text e.0) ∷ [] in
    let both = first_none (key_faults e.0 at ++ number_faults count e.1 at) (entries_faults count es base) h in
    or_from (is_unknown e.0) _ (key_reported e.0 at (first_none (key_faults e.0 at) (number_faults count e.1 at) both))
    (entries_reported count es base (second_none (key_faults e.0 at ++ number_faults count e.1 at) (entries_faults count es base) h))

pub reported_attributes : {P : Type 0} (named : ListName) (m : BTreeMap (Checked Semantic) (IndexTo P)) → IsReported (Attributes named) (attributes_tree m)
reported_attributes named m = record { valid = λ context animation base none. entries_reported (count_in named context.root) (map entry_of m.entries) base none }

items_reported : {X : Type 0} (kind : Kind) (f : X → Tree) (context : Context) (animation : Tree) → ((x : X) → IsReported kind (f x)) → (i : ℕ) (xs : List X) (base : List Step)
    → items_reports (λ t. reports kind t context animation) i (trees (map f xs)) base ≡ [] → any_holds_invalid (trees (map f xs)) ≡ false
items_reported kind f context animation each i [] base h = refl
items_reported kind f context animation each i (x ∷ xs) base h =
    let at = base ++ item i ∷ [] in
    let first = reports kind (f x) context animation at in
    let later = items_reports (λ t. reports kind t context animation) (suc i) (trees (map f xs)) base in
    or_from (holds_invalid (f x)) _ ((each x).valid context animation at (first_none first later h))
    (items_reported kind f context animation each (suc i) xs base (second_none first later h))

pub reported_list : {X : Type 0} (kind : Kind) (f : X → Tree) (xs : List X) → ((x : X) → IsReported kind (f x)) → IsReported (ListOf kind) (list_tree f xs)
reported_list kind f xs each = record { valid = λ context animation base none. items_reported kind f context animation each 0 xs base none }

pub reported_object : (rule : Rule) (rows : Rows) (keeps : Bool) (ts : Trees) (others : Members) → AreReported rows ts → IsReported (Object rule rows keeps) (object ts others)
reported_object rule rows keeps ts others all = record {
  valid = λ context animation base none.
      let inner = animation_below rule (object ts others) animation in
      all.valid context inner base (first_none (member_reports ts rows context inner base) (object_faults (object ts others) rule context base) none);
}

pub reported_none : (rows : Rows) → AreReported rows end
reported_none rows = record { valid = λ context animation base none. refl }

pub reported_row : (n : List ℕ) (mark : Mark) (kind : Kind) (rows : Rows) (t : Tree) (ts : Trees) → IsReported kind t → AreReported rows ts → AreReported (row n mark kind rows) (with_tree t ts)
reported_row n mark kind rows t ts one all = record {
  valid = λ context animation base none.
      let at = base ++ field n ∷ [] in
      let first = reports kind t context animation at in
      let later = member_reports ts rows context animation base in
      or_from (holds_invalid t) _ (one.valid context animation at (first_none first later none))
      (all.valid context animation base (second_none first later none));
}

pub ruleset invalid_reported = (refl, reported_valid, reported_or_absent, reported_choice, reported_attributes, reported_list, reported_object, reported_none, reported_row)
