-- Nodes that are added leave what was said of those before them; the rows of an object one after
-- another.
use Rattle.std.proofs.Common.{◌≡◌, ◌++◌, ℕ, zero, suc, List, [], ◌∷◌, length, Bool, true, false, Option, Some, None, Result, Ok, Err, refl, ap, ◌∙◌, subst, sym, append_assoc, append-nil}
use Rattle.std.specs.Prelude.{⊤, slice_get, IfOk}
use Rattle.std.specs.declared.alloc.Global.{Global}
use Rattle.std.specs.declared.vec.Vec.{Vec}
use Rattle.serde_json.specs.Data.{Members}
use Rattle.gltf_base.specs.Lists.{ListName}
use Rattle.gltf_schema.specs.Tree.{Tree, Trees, end, with_tree}
use Rattle.gltf_schema.specs.Kind.{Rule, Kind, Rows, no_rows, row}
use Rattle.gltf_schema.specs.Kind as kinds
use Rattle.gltf_schema.specs.RowReading.{RowsFrom, OthersFrom, ReadsMembers}
use Rattle.gltf_schema.specs.Outline.{IsShapeOf, AreMembersOf, Outlines}
use Rattle.gltf_schema.specs.RowOutlining.{Drawn, drawn, DrawsMember, DrawsOthers}
use Rattle.gltf_schema.specs.declared.outline.Shape.{Shape}
use Rattle.gltf_schema.specs.declared.outline.Shape.TheVariants.{Indexes, List as ListOf, Numbers, Object}
use Rattle.gltf_schema.specs.declared.outline.Member.{Member}

-- ---- nodes that are added behind

pub still_there : {X : Type 0} (xs ys : List X) (i : ℕ) (x : X) → slice_get xs i ≡ Some x → slice_get (xs ++ ys) i ≡ Some x
still_there [] ys i x h = absurd cc
still_there (z ∷ xs) ys zero x h = h
still_there (z ∷ xs) ys (suc i) x h = still_there xs ys i x h

-- the node behind the others
pub last_there : {X : Type 0} (xs : List X) (x : X) → slice_get (xs ++ x ∷ []) (length xs) ≡ Some x
last_there [] x = refl
last_there (z ∷ xs) x = last_there xs x

mutual
  pub still_shaped : (kind : Kind) (ns more : List Shape) (i : ℕ) → IsShapeOf ns i kind → IsShapeOf (ns ++ more) i kind
  still_shaped (kinds.IndexInto l) ns more i h = still_there ns more i _ h
  still_shaped kinds.SourceImage ns more i h = still_there ns more i _ h
  still_shaped kinds.ChannelSampler ns more i h = still_there ns more i _ h
  still_shaped kinds.U32 ns more i h = still_there ns more i _ h
  still_shaped kinds.U64 ns more i h = still_there ns more i _ h
  still_shaped kinds.Stride ns more i h = still_there ns more i _ h
  still_shaped kinds.Number ns more i h = still_there ns more i _ h
  still_shaped (kinds.Numbers n) ns more i h = (h.0, still_there ns more i _ h.1, still_there ns more h.0 _ h.2)
  still_shaped kinds.Text ns more i h = still_there ns more i _ h
  still_shaped kinds.Truth ns more i h = still_there ns more i _ h
  still_shaped kinds.Any ns more i h = still_there ns more i _ h
  still_shaped (kinds.Choice form names) ns more i h = still_there ns more i _ h
  still_shaped (kinds.Attributes l) ns more i h = (h.0, still_there ns more i _ h.1, still_there ns more h.0 _ h.2)
  still_shaped (kinds.ListOf kind) ns more i h = (h.0, still_there ns more i _ h.1, still_shaped kind ns more h.0 h.2)
  still_shaped (kinds.Object rule rows keeps) ns more i h = (h.0, still_there ns more i _ h.1, members_stay rows ns more h.0.items h.2)

  pub members_stay : (rows : Rows) (ns more : List Shape) (ms : List Member) → AreMembersOf ns ms rows → AreMembersOf (ns ++ more) ms rows
  members_stay no_rows ns more [] h = tt
  members_stay no_rows ns more (m ∷ ms) h = absurd h
  members_stay (row n mark kind rows) ns more [] h = absurd h
  members_stay (row n mark kind rows) ns more (m ∷ ms) h = (h.0, h.1, still_shaped kind ns more m.value h.2, members_stay rows ns more ms h.3)

-- ---- rows

-- each row's member was added
abbrev pub RowsDrawn : Drawn → Rows → Option Drawn → Type 0
RowsDrawn d rows None = ⊤
RowsDrawn d rows (Some d') = (d'.keeps ≡ d.keeps) × (more : List Shape) × (found : List Member) × (d'.nodes ≡ d.nodes ++ more) × (d'.members ≡ d.members ++ found) × AreMembersOf d'.nodes found rows

none_stays : (rows : Rows) (ts ts' : Trees) (new : Option Drawn) → RowsFrom DrawsMember None rows ts ts' new → new ≡ None
none_stays no_rows end end new h = h
none_stays no_rows end (with_tree t' ts') new h = absurd h
none_stays no_rows (with_tree t ts) ts' new h = absurd h
none_stays (row n mark kind rows) end ts' new h = absurd h
none_stays (row n mark kind rows) (with_tree t ts) end new h = absurd h
none_stays (row n mark kind rows) (with_tree t ts) (with_tree t' ts') new h =
    none_stays rows ts ts' new (subst (λ mid. RowsFrom DrawsMember mid rows ts ts' new) h.1 h.2)

row_drawn : (n : List ℕ) (mark : kinds.Mark) (kind : Kind) (rows : Rows) (d mid : Drawn) (t t' : Tree) (new : Option Drawn)
    → DrawsMember (Some d) n mark kind t t' (Some mid) → RowsDrawn mid rows new → RowsDrawn d (row n mark kind rows) new
row_drawn n mark kind rows d mid t t' None h rest = tt
row_drawn n mark kind rows d mid t t' (Some d') h rest =
    let added = h.1 in
    let m = added.1 in (
      rest.0 ∙ h.0,
      added.0 ++ rest.1,
      m ∷ rest.2,
      rest.3 ∙ ap (λ ns. ns ++ rest.1) added.2 ∙ append_assoc d.nodes added.0 rest.1,
      rest.4 ∙ ap (λ ms. ms ++ rest.2) added.3 ∙ append_assoc d.members (m ∷ []) rest.2,
      (added.4, added.5, subst (λ ns. IsShapeOf ns m.value kind) (sym rest.3) (still_shaped kind mid.nodes rest.1 m.value added.6), rest.5),
    )

rows_behind : (n : List ℕ) (mark : kinds.Mark) (kind : Kind) (rows : Rows) (t t' : Tree) (ts ts' : Trees) (d : Drawn) (new mid : Option Drawn)
    → ((m : Drawn) → RowsFrom DrawsMember (Some m) rows ts ts' new → RowsDrawn m rows new)
    → DrawsMember (Some d) n mark kind t t' mid → RowsFrom DrawsMember mid rows ts ts' new → RowsDrawn d (row n mark kind rows) new
rows_behind n mark kind rows t t' ts ts' d new None drawn_from first rest = subst (RowsDrawn d (row n mark kind rows)) (sym (none_stays rows ts ts' new rest)) tt
rows_behind n mark kind rows t t' ts ts' d new (Some m) drawn_from first rest = row_drawn n mark kind rows d m t t' new first (drawn_from m rest)

rows_drawn : (rows : Rows) (ts ts' : Trees) (d : Drawn) (new : Option Drawn) → RowsFrom DrawsMember (Some d) rows ts ts' new → RowsDrawn d rows new
rows_drawn no_rows end end d new h = subst (RowsDrawn d no_rows) (sym h) (refl, [], [], sym (append-nil d.nodes), sym (append-nil d.members), tt)
rows_drawn no_rows end (with_tree t' ts') d new h = absurd h
rows_drawn no_rows (with_tree t ts) ts' d new h = absurd h
rows_drawn (row n mark kind rows) end ts' d new h = absurd h
rows_drawn (row n mark kind rows) (with_tree t ts) end d new h = absurd h
rows_drawn (row n mark kind rows) (with_tree t ts) (with_tree t' ts') d new h =
    rows_behind n mark kind rows t t' ts ts' d new h.0 (λ m r. rows_drawn rows ts ts' m new r) h.1 h.2

-- what was gathered of an object, if memory sufficed
abbrev pub ObjectDrawn : List Shape → Rows → Bool → Option Drawn → Type 0
ObjectDrawn ns rows keeps None = ⊤
ObjectDrawn ns rows keeps (Some d) = (d.keeps ≡ keeps) × (more : List Shape) × (d.nodes ≡ ns ++ more) × AreMembersOf d.nodes d.members rows

others_drawn : (ns : List Shape) (rows : Rows) (keeps : Bool) (d : Drawn) (mid new : Option Drawn) (ms ms' : Members)
    → d.nodes ≡ ns → d.members ≡ [] → d.keeps ≡ false → RowsDrawn d rows mid → OthersFrom DrawsOthers keeps mid ms ms' new → ObjectDrawn ns rows keeps new
others_drawn ns rows true d None new ms ms' a b c h o = subst (ObjectDrawn ns rows true) (sym o) tt
others_drawn ns rows true d (Some d') new ms ms' a b c h o =
    subst (ObjectDrawn ns rows true) (sym o) (refl, h.1, h.3 ∙ ap (λ l. l ++ h.1) a, subst (λ l. AreMembersOf d'.nodes l rows) (sym (h.4 ∙ ap (λ l. l ++ h.2) b)) h.5)
others_drawn ns rows false d None new ms ms' a b c h o = subst (ObjectDrawn ns rows false) (sym o.1) tt
others_drawn ns rows false d (Some d') new ms ms' a b c h o =
    subst (ObjectDrawn ns rows false) (sym o.1) (h.0 ∙ c, h.1, h.3 ∙ ap (λ l. l ++ h.1) a, subst (λ l. AreMembersOf d'.nodes l rows) (sym (h.4 ∙ ap (λ l. l ++ h.2) b)) h.5)

-- the rows and the other members of an object
pub object_drawn : {rows : Rows} {keeps : Bool} {ts ts' : Trees} {ms ms' : Members} {ns first : List Shape} {none : List Member} {new : Option Drawn}
    → ReadsMembers DrawsMember DrawsOthers rows keeps ts ts' ms ms' (drawn false first none false) new → first ≡ ns → none ≡ [] → ObjectDrawn ns rows keeps new
object_drawn {rows} {keeps} {ts} {ts'} {ms} {ms'} {ns} {first} {none} {new} h nodes empty =
    let d : Drawn = record { nodes = first; members = none; keeps = false } in
    others_drawn ns rows keeps d h.mid new ms ms' nodes empty refl (rows_drawn rows ts ts' d h.mid h.rows_from) h.others_from

-- ---- a node behind those of what it holds

there_behind : (nodes out : List Shape) (own : Shape) (i : ℕ) → i ≡ length nodes → out ≡ nodes ++ own ∷ [] → slice_get out i ≡ Some own
there_behind nodes out own i at e =
    subst (λ j. slice_get out j ≡ Some own) (sym at) (subst (λ l. slice_get l (length nodes) ≡ Some own) (sym e) (last_there nodes own))

-- what was said of the nodes before it
grown : (old nodes out more : List Shape) (own : Shape) → nodes ≡ old ++ more → out ≡ nodes ++ own ∷ [] → out ≡ old ++ (more ++ own ∷ [])
grown old nodes out more own before e = e ∙ ap (λ l. l ++ own ∷ []) before ∙ append_assoc old more (own ∷ [])

still_in : (nodes out : List Shape) (own : Shape) (kind : Kind) (j : ℕ) → out ≡ nodes ++ own ∷ [] → IsShapeOf nodes j kind → IsShapeOf out j kind
still_in nodes out own kind j e h = subst (λ l. IsShapeOf l j kind) (sym e) (still_shaped kind nodes (own ∷ []) j h)

-- the nodes of what is inside were added
abbrev pub IsInner : List Shape → ℕ → List Shape → Kind → Type 0
IsInner old j nodes kind = (more : List Shape) × (nodes ≡ old ++ more) × IsShapeOf nodes j kind

-- a node was added behind the others
abbrev pub IsBehind : {E : Type 0} → List Shape → Shape → Result ℕ E → List Shape → Type 0
IsBehind nodes own r out = IfOk r (λ i. (i ≡ length nodes) × (out ≡ nodes ++ own ∷ []))

pub list_outlined : {E : Type 0} (old nodes out : List Shape) (kind : Kind) (j : ℕ) (r : Result ℕ E) → IsInner old j nodes kind → IsBehind nodes (ListOf j) r out → Outlines old r out (kinds.ListOf kind)
list_outlined old nodes out kind j (Err e) inner h = tt
list_outlined old nodes out kind j (Ok i) inner h =
    (inner.0 ++ ListOf j ∷ [], grown old nodes out inner.0 (ListOf j) inner.1 h.1, (j, there_behind nodes out (ListOf j) i h.0 h.1, still_in nodes out (ListOf j) kind j h.1 inner.2))

pub numbers_outlined : {E : Type 0} (old nodes out : List Shape) (n j : ℕ) (r : Result ℕ E) → IsInner old j nodes kinds.Number → IsBehind nodes (Numbers n j) r out → Outlines old r out (kinds.Numbers n)
numbers_outlined old nodes out n j (Err e) inner h = tt
numbers_outlined old nodes out n j (Ok i) inner h =
    (inner.0 ++ Numbers n j ∷ [], grown old nodes out inner.0 (Numbers n j) inner.1 h.1, (j, there_behind nodes out (Numbers n j) i h.0 h.1, still_in nodes out (Numbers n j) kinds.Number j h.1 inner.2))

pub indexes_outlined : {E : Type 0} (old nodes out : List Shape) (l : ListName) (j : ℕ) (r : Result ℕ E) → IsInner old j nodes (kinds.IndexInto l) → IsBehind nodes (Indexes j) r out → Outlines old r out (kinds.Attributes l)
indexes_outlined old nodes out l j (Err e) inner h = tt
indexes_outlined old nodes out l j (Ok i) inner h =
    (inner.0 ++ Indexes j ∷ [], grown old nodes out inner.0 (Indexes j) inner.1 h.1, (j, there_behind nodes out (Indexes j) i h.0 h.1, still_in nodes out (Indexes j) (kinds.IndexInto l) j h.1 inner.2))

object_behind : (ns nodes out : List Shape) (members : Vec Member Global) (rule : Rule) (rows : Rows) (k keeps : Bool) (i : ℕ)
    → ObjectDrawn ns rows keeps (drawn false nodes members.items k) → i ≡ length nodes → out ≡ nodes ++ Object members k ∷ []
    → (more : List Shape) × (out ≡ ns ++ more) × IsShapeOf out i (kinds.Object rule rows keeps)
object_behind ns nodes out members rule rows k keeps i o at e =
    let own = Object members k in (
      o.1 ++ own ∷ [],
      grown ns nodes out o.1 own o.2 e,
      (members, there_behind nodes out own i at e ∙ ap (λ b. Some (Object members b)) o.0, subst (λ l. AreMembersOf l members.items rows) (sym e) (members_stay rows nodes (own ∷ []) members.items o.3)),
    )

pub object_outlined : {E : Type 0} (ns : List Shape) (rule : Rule) (rows : Rows) (keeps failed : Bool) (nodes out : List Shape) (members : Vec Member Global) (k : Bool) (r : Result ℕ E)
    → ObjectDrawn ns rows keeps (drawn failed nodes members.items k) → failed ≡ false
    → IfOk r (λ i. (i ≡ length nodes) × (out ≡ nodes ++ Object members k ∷ [])) → Outlines ns r out (kinds.Object rule rows keeps)
object_outlined ns rule rows keeps failed nodes out members k (Err e) o f h = tt
object_outlined ns rule rows keeps failed nodes out members k (Ok i) o f h =
    object_behind ns nodes out members rule rows k keeps i (subst (λ b. ObjectDrawn ns rows keeps (drawn b nodes members.items k)) f o) h.0 h.1
