-- No checklist of a tree is higher than its kind.
use Rattle.std.proofs.Common.{◌≤◌, ℕ, suc, max, cond, List, [], ◌∷◌, Bool, true, false, arith}
use Rattle.gltf_base.specs.Keys.{Key}
use Rattle.gltf_schema.specs.Tree as tree
use Rattle.gltf_schema.specs.Tree.{Tree, Trees, end, with_tree, items_in, members_in, entries_in}
use Rattle.gltf_schema.specs.Kind.{Kind, Attributes, ListOf, Object, Rows, no_rows, row, Rule, needs_data, needs_cone, needs_positions, requires_enabled}
use Rattle.gltf_validation_rules.specs.Context.{Context}
use Rattle.gltf_validation_rules.specs.Reports.{animation_below}
use Rattle.gltf_schema.specs.Silence.{is_silent}
use Rattle.gltf_validation_rules.specs.Rules.{root_extensions_required}
use Rattle.gltf_root.specs.Lists.{count_in}
use Rattle.gltf_schema.specs.Height.{rule_height, kind_height, rows_height}
use Rattle.gltf_validation_objects.specs.Checklist.{Checklist, Checklists, nothing, below, also, height, heights}
use Rattle.gltf_validation_objects.specs.ChecklistOf.{entry_checklists, item_checklists, name_checklist, rule_checklists, unless_silent, checklist, member_checklists}

-- ---- parts of checklists

also_height : (ps qs : Checklists) (n : ℕ) → heights ps ≤ n → heights qs ≤ n → heights (also ps qs) ≤ n
also_height nothing qs n l m = m
also_height (below s p ps) qs n l m = let rest = also_height ps qs n (omega (arith, l)) m in omega (arith, l, rest)

entries_height : (count : ℕ) (es : List (Key × ℕ)) → heights (entry_checklists count es) ≤ 1
entries_height count [] = omega arith
entries_height count (e ∷ es) = let rest = entries_height count es in omega (arith, rest)

items_height : (f : Tree → Checklist) (n : ℕ) → ((t : Tree) → height (f t) ≤ n) → (i : ℕ) (ts : Trees) → heights (item_checklists f i ts) ≤ suc n
items_height f n each i end = omega arith
items_height f n each i (with_tree t ts) =
    let here = each t in
    let rest = items_height f n each (suc i) ts in omega (arith, here, rest)

-- ---- rules

name_height : (enabled : List (List ℕ)) (t : Tree) → height (name_checklist enabled t) ≤ 1
name_height enabled (tree.text s) = omega arith
name_height enabled t = omega arith

rules_height : (rule : Rule) (t : Tree) (context : Context) → heights (rule_checklists rule t context) ≤ rule_height rule
rules_height needs_data (tree.object ts others) context = omega arith
rules_height needs_cone (tree.object ts others) context = omega arith
rules_height needs_positions (tree.object ts others) context = omega arith
rules_height requires_enabled (tree.object ts others) context =
    let names = items_height (name_checklist context.rules.enabled) 1 (name_height context.rules.enabled) 0 (items_in (root_extensions_required ts)) in omega (arith, names)
rules_height rule t context = omega arith

-- ---- kinds

-- a row, whether the checklist passes it over or not
row_height : (is_over : Bool) (n : List ℕ) (p : Checklist) (ps : Checklists) (k m : ℕ) → height p ≤ k → heights ps ≤ m
    → heights (unless_silent is_over n p ps) ≤ max (cond is_over 0 (suc k)) m
row_height true n p ps k m here rest = omega (arith, rest)
row_height false n p ps k m here rest = omega (arith, here, rest)

mutual
  pub bounded : (kind : Kind) (t : Tree) (context : Context) (animation : Tree) → height (checklist kind t context animation) ≤ kind_height kind
  bounded (Attributes named) t context animation = entries_height (count_in named context.root) (entries_in t)
  bounded (ListOf kind) t context animation =
      items_height (λ x. checklist kind x context animation) (kind_height kind) (λ x. bounded kind x context animation) 0 (items_in t)
  bounded (Object rule rows keeps) t context animation =
      let above = animation_below rule t animation in
      let members = rows_bounded (members_in t) rows context above in
      let ruled = rules_height rule t context in
      also_height (member_checklists (members_in t) rows context above) (rule_checklists rule t context) (max (rows_height rows) (rule_height rule))
      (omega (arith, members)) (omega (arith, ruled))
  bounded kind t context animation = omega arith

  rows_bounded : (ts : Trees) (rows : Rows) (context : Context) (animation : Tree) → heights (member_checklists ts rows context animation) ≤ rows_height rows
  rows_bounded end rows context animation = omega arith
  rows_bounded (with_tree t ts) no_rows context animation = omega arith
  rows_bounded (with_tree t ts) (row n mark kind rows) context animation =
      row_height (is_silent kind) n (checklist kind t context animation) (member_checklists ts rows context animation) (kind_height kind) (rows_height rows)
      (bounded kind t context animation) (rows_bounded ts rows context animation)
