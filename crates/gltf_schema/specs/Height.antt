-- How many steps down a tree of a kind something can be wrong.
use Rattle.std.specs.Prelude.{◌≡◌, ℕ, suc, max, cond, true, false}
use Rattle.gltf_schema.specs.Kind.{Kind, Attributes, ListOf, Object, Rows, no_rows, row, Rule, no_rule, needs_data, needs_projection, needs_cone, needs_positions, requires_enabled, holds_samplers}
use Rattle.gltf_schema.specs.Silence.{is_silent}

-- the steps from an object to what its rule reports
abbrev pub rule_height : Rule → ℕ
rule_height no_rule = 0
rule_height needs_data = 1
rule_height needs_projection = 0
rule_height needs_cone = 1
rule_height needs_positions = 3
rule_height requires_enabled = 3
rule_height holds_samplers = 0

abbrev mutual
  -- the steps to the deepest place in a tree of a kind; what cannot be wrong is passed over
  pub kind_height : Kind → ℕ
  kind_height (Attributes named) = 1
  kind_height (ListOf kind) = suc (kind_height kind)
  kind_height (Object rule rows keeps) = max (rows_height rows) (rule_height rule)
  kind_height _ = 0

  pub rows_height : Rows → ℕ
  rows_height no_rows = 0
  rows_height (row n mark kind rows) = max (cond (is_silent kind) 0 (suc (kind_height kind))) (rows_height rows)

-- something can be wrong in a tree of the kind, so many steps down at the most
abbrev pub IsHigh : ℕ → Kind → Type 0
IsHigh n kind = (is_silent kind ≡ false) × (kind_height kind ≡ n)

-- nothing can be wrong in a tree of the kind
abbrev pub IsFlat : Kind → Type 0
IsFlat kind = (is_silent kind ≡ true) × (kind_height kind ≡ 0)
