-- What remains of the checklists of frames.
use Rattle.std.specs.Prelude.{◌≡◌, ℕ, List, [], ◌∷◌, ◌++◌, map, Option, Some, None, MatchOption}
use Rattle.std.specs.Borrow.{Bor}
use Rattle.std.specs.List.{filter}
use Rattle.std.specs.Ordering.{is_lt}
use Rattle.std.specs.BTreeMap.{BTreeMap}
use Rattle.gltf_base.specs.Keys.{Key, key_cmp}
use Rattle.gltf_base.specs.Semantics.{checked_key}
use Rattle.gltf_base.specs.declared.mesh.Semantic.{Semantic}
use Rattle.gltf_base.specs.declared.validation.Checked.{Checked}
use Rattle.gltf_base.specs.declared.index.IndexTo.{IndexTo}
use Rattle.gltf_base.specs.Lists.{ListName}
use Rattle.gltf_schema.specs.Fields.{entry_of}
use Rattle.gltf_root.specs.Lists.{count_in}
use Rattle.gltf_validation_rules.specs.Context.{Context}
use Rattle.gltf_validation_objects.specs.ValueRefs.{checklist_of}
use Rattle.gltf_validation_objects.specs.Moves.{move_of, IsMore}
use Rattle.gltf_validation_objects.specs.Checklist.{Checklist, place, first_move, rest_after}
use Rattle.gltf_validation_objects.specs.ChecklistOf.{entry_checklists}
use Rattle.gltf_validation_objects.specs.declared.event.Event.{Event}
use Rattle.gltf_validation_objects.specs.declared.value_ref.ValueRef.{ValueRef}
use Rattle.gltf_validation_objects.specs.declared.value_ref.ValueRef.TheVariants as value_ref
use Rattle.gltf_validation_walk.specs.declared.frame.Frame.{Frame}

-- ---- attributes, which are gone through by their keys

-- the entries behind a key, or all of them
abbrev pub entries_behind : Option (Bor (Checked Semantic)) → List (Key × ℕ) → List (Key × ℕ)
entries_behind None es = es
entries_behind (Some k) es = filter (λ e. is_lt (key_cmp (checked_key k.now) e.0)) es

-- the first entry behind a key, or of all: those behind its own key are the others
abbrev pub IsFirstBehind : {P : Type 0} → Option (Bor (Checked Semantic)) → List (Checked Semantic × IndexTo P) → Option (Bor (Checked Semantic) × Bor (IndexTo P)) → Type 0
IsFirstBehind b es r = MatchOption r (entries_behind b (map entry_of es) ≡ [])
    (λ e. entries_behind b (map entry_of es) ≡ entry_of (e.0.now, e.1.now) ∷ entries_behind (Some e.0) (map entry_of es))

abbrev pub attributes_left : {P : Type 0} → Context → BTreeMap (Checked Semantic) (IndexTo P) → Option (Bor (Checked Semantic)) → Checklist
attributes_left context m behind = place (entry_checklists (count_in ListName.accessors context.root) (entries_behind behind (map entry_of m.entries))) []

-- ---- all other values, whose moves are numbered

abbrev pub value_left : Context → ValueRef → ℕ → Option (Bor (Checked Semantic)) → Checklist
value_left context (value_ref.Attributes m) number behind = attributes_left context m.now behind
value_left context q number behind = rest_after (checklist_of context q) number

-- ---- frames

-- the start of a value
abbrev pub first_frame : ValueRef → Frame
first_frame q = record { value = q; number = 0; behind = None }

abbrev pub checklist_left : Context → Frame → Checklist
checklist_left context f = value_left context f.value f.number f.behind

abbrev pub checklists_left : Context → List Frame → List Checklist
checklists_left context fs = map (checklist_left context) fs

-- the event is the first move of the last frame, which is behind it then; the frames below stay
abbrev pub IsNextOfLast : Context → List Frame → Event → List Frame → Type 0
IsNextOfLast context fs e gs = (front : List Frame) × (f : Frame) × (g : Frame) × (fs ≡ front ++ f ∷ []) × (gs ≡ front ++ g ∷ []) × (move_of context e ≡ first_move (checklist_left context f)) × (IsMore e → checklist_left context g ≡ rest_after (checklist_left context f) 1)
