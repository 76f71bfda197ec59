-- Kinds in which nothing can be wrong.
use Rattle.std.specs.Prelude.{Bool, true, false, ◌&&◌}
use Rattle.gltf_schema.specs.Kind.{Kind, U32, U64, Number, Numbers, Text, Truth, Any, ListOf, Object, Rows, no_rows, row, Rule, no_rule, needs_data, needs_projection, needs_cone, needs_positions, requires_enabled, holds_samplers}

-- no object breaks the rule
abbrev pub is_silent_rule : Rule → Bool
is_silent_rule no_rule = true
is_silent_rule needs_data = false
is_silent_rule needs_projection = false
is_silent_rule needs_cone = false
is_silent_rule needs_positions = false
is_silent_rule requires_enabled = false
is_silent_rule holds_samplers = true

abbrev mutual
  -- no value of the kind can be wrong
  pub is_silent : Kind → Bool
  is_silent U32 = true
  is_silent U64 = true
  is_silent Number = true
  is_silent (Numbers n) = true
  is_silent Text = true
  is_silent Truth = true
  is_silent Any = true
  is_silent (ListOf kind) = is_silent kind
  is_silent (Object rule rows keeps) = is_silent_rule rule && are_silent rows
  is_silent _ = false

  pub are_silent : Rows → Bool
  are_silent no_rows = true
  are_silent (row n mark kind rows) = is_silent kind && are_silent rows
