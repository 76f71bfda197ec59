-- Members that an object has, and those that it has to have.
use Rattle.std.proofs.Common.{◌≡◌, inl, inr, ℕ, zero, suc, ◌==◌, List, [], ◌∷◌, length, Bool, true, false, cond, Option, Some, None, refl, sym, ap, ◌∙◌, subst, bytes_eq, arith}
use Rattle.std.specs.Prelude.{if◌then◌else◌, is_none, slice_get, get_or, ◌&&◌, replicate}
use Rattle.std.specs.Borrow.{Bor}
use Rattle.std.proofs.lemmas.Slice.Eq.{bytes_eq-Decides}
use Rattle.json.specs.Json as tree
use Rattle.json.specs.Find.{later_or, get_member}
use Rattle.serde_json.specs.Data.{Data}
use Rattle.serde_json.specs.Find.{get}
use Rattle.serde_json.specs.Read.{of_json}
use Rattle.gltf_schema.specs.declared.outline.Member.{Member}
use Rattle.gltf_findings_codes.specs.declared.code.Code.TheVariants.{UndefinedProperty}
use Rattle.gltf_findings_members.specs.Look.{HasNames, HaveNames, IsNoted, IsPlaceOf, IsRow, NamesSeen, NeededSeen}
use Rattle.gltf_findings_members.specs.Quiet.{LacksNone, Reading}
use Rattle.gltf_findings_members.specs.Required.{lacking_code}
use Rattle.gltf_findings_members.specs.Rows.{is_missing, is_needed}
use Rattle.gltf_findings_members.proofs.NoneInObjects.{found, not_lacking, not_missing}
use Rattle.gltf_findings_members.proofs.NoneInValues.{lacks_row}

-- ---- members

-- some member has this name
abbrev pub HasMember : List ℕ → tree.Members → Type 0
HasMember n js = (j : tree.Json) × (get_member n js ≡ Some j)

pub still_has : (n k : List ℕ) (j : tree.Json) (js : tree.Members) → HasMember n js → HasMember n (tree.member k j js)
still_has n k j js has = (has.0, ap (λ x. later_or x (cond (bytes_eq k n) (Some j) None)) has.1)

now_has_at : (o : Option tree.Json) (b : Bool) (j : tree.Json) → b ≡ true → (i : tree.Json) × (later_or o (cond b (Some j) None) ≡ Some i)
now_has_at None b j is = (j, ap (λ x. cond x (Some j) None) is)
now_has_at (Some i) b j is = (i, refl)

pub now_has : (k : List ℕ) (j : tree.Json) (js : tree.Members) → HasMember k (tree.member k j js)
now_has k j js = now_has_at (get_member k js) (bytes_eq k k) j ((bytes_eq-Decides k k).1 refl)

pub has_some : (n : List ℕ) (js : tree.Members) → HasMember n js → js ≡ tree.no_members → ⊥
has_some n js has none = let never : None ≡ Some has.0 = ap (get_member n) (sym none) ∙ has.1 in absurd (cc)

-- ---- rows

-- the members of the rows that were seen are there
abbrev pub HasSeen : List Member → List Bool → tree.Members → Type 0
HasSeen rows seen js = (i : ℕ) → get_or seen i false ≡ true → (m : Member) × (slice_get rows i ≡ Some m) × HasMember m.name.now js

no_need : (m : Member) (d : Data) → is_needed m ≡ false → is_missing d m ≡ None
no_need m d is = ap (λ b. if b && is_none (get m.name.now d) then Some UndefinedProperty else None) is

pub same_row : (rows : List Member) (i : ℕ) (m n : Member) → slice_get rows i ≡ Some m → slice_get rows i ≡ Some n → m ≡ n
same_row rows i m n here there = let both : Some m ≡ Some n = sym here ∙ there in cc

module _ (js : tree.Members) where
  there : (n : List ℕ) → HasMember n js → (d : Data) → of_json (tree.object js) ≡ Some d → (e : Data) × (get n d ≡ Some e)
  there n has d read = let e = found n (tree.object js) has.0 d read has.1 in (e.0, e.2)

  row_is_there : (rows : List Member) (seen : List Bool) (i : ℕ) (m : Member) (b : Bool) → is_needed m ≡ b → slice_get rows i ≡ Some m → NeededSeen rows seen → HasSeen rows seen js
      → Reading (tree.object js) (λ d. is_missing d m ≡ None)
  row_is_there rows seen i m false need here needed has d read = no_need m d need
  row_is_there rows seen i m true need here needed has d read =
      let got = has i (needed i m here need) in
      let same : got.0 ≡ m = same_row rows i got.0 m got.1 here in
      let e = there m.name.now (subst (λ (x : Member). HasMember x.name.now js) same got.2) d read in
      not_missing m d e.0 e.1

  all_rows : (rows : List Member) (j : tree.Json) → ((i : ℕ) (m : Member) → slice_get rows i ≡ Some m → Reading j (λ d. is_missing d m ≡ None)) → LacksNone rows j
  all_rows [] j each = λ at d read. refl
  all_rows (m ∷ ms) j each = lacks_row m ms j (each 0 m refl) (all_rows ms j (λ i. each (suc i)))

  pub rows_are_there : (rows : List Member) (seen : List Bool) → NeededSeen rows seen → HasSeen rows seen js → LacksNone rows (tree.object js)
  rows_are_there rows seen needed has = all_rows rows (tree.object js) (λ i m here. row_is_there rows seen i m (is_needed m) refl here needed has)

  pub names_are_there : (rows : List Member) (seen : List Bool) (names : List (Bor (List ℕ))) → NamesSeen rows seen names → HasSeen rows seen js → HasNames names (tree.object js)
  names_are_there rows seen [] given has = tt
  names_are_there rows seen (n ∷ names) given has = (here, names_are_there rows seen names given.1 has)
    where
      here : Reading (tree.object js) (λ d. lacking_code n.now d ≡ None)
      here d read =
          let row = given.0.1 in
          let got = has given.0.0 given.0.2 in
          let same : got.0 ≡ row.0 = same_row rows given.0.0 got.0 row.0 got.1 row.1 in
          let named : HasMember row.0.name.now js = subst (λ (x : Member). HasMember x.name.now js) same got.2 in
          let e = there n.now (subst (λ x. HasMember x js) row.2 named) d read in
          not_lacking n.now d e.0 e.1

-- ---- what is no object lacks no names

pub all_names : (names : List (Bor (List ℕ))) (j : tree.Json) → ((n : List ℕ) → Reading j (λ d. lacking_code n d ≡ None)) → HasNames names j
all_names [] j each = tt
all_names (n ∷ names) j each = (each n.now, all_names names j each)

-- ---- no rows with their member, and no names

pub none_seen : (n i : ℕ) → get_or (replicate n false) i false ≡ false
none_seen zero i = refl
none_seen (suc n) zero = refl
none_seen (suc n) (suc i) = none_seen n i

pub nothing_seen : (n : ℕ) (rows : List Member) (js : tree.Members) → HasSeen rows (replicate n false) js
nothing_seen n rows js i is = let never : false ≡ true = sym (none_seen n i) ∙ is in absurd (cc)

pub no_names : (names : List (Bor (List ℕ))) (js : tree.Items) → (length names == 0) ≡ true → HaveNames names js
no_names [] tree.no_items none = tt
no_names [] (tree.item j js) none = (tt, no_names [] js none)
no_names (n ∷ names) js none = let never : ⊥ = grind (arith, none) in absurd never

pub names_none : (names : List (Bor (List ℕ))) (j : tree.Json) → (length names == 0) ≡ true → HasNames names j
names_none [] j none = tt
names_none (n ∷ names) j none = let never : ⊥ = grind (arith, none) in absurd never

-- ---- a member in front of others

pub seen_next : (rows : List Member) (seen seen' : List Bool) (place : Option ℕ) (k : List ℕ) (j : tree.Json) (before : tree.Members → tree.Members) → IsPlaceOf rows k place
    → ((i : ℕ) → get_or seen' i false ≡ true → IsNoted seen place i) → ((n : List ℕ) (js : tree.Members) → HasMember n js → HasMember n (before js))
    → ((js : tree.Members) → HasSeen rows seen (before js)) → (js : tree.Members) → HasSeen rows seen' (before (tree.member k j js))
seen_next rows seen seen' place k j before at noted keeps has js i is = by (noted i is)
  where
    by : IsNoted seen place i → (m : Member) × (slice_get rows i ≡ Some m) × HasMember m.name.now (before (tree.member k j js))
    by (inl old) = has (tree.member k j js) i old
    by (inr new) =
        let row : IsRow rows k i = subst (IsPlaceOf rows k) new at in
        (row.0, row.1, keeps row.0.name.now (tree.member k j js) (subst (λ x. HasMember x (tree.member k j js)) (sym row.2) (now_has k j js)))
