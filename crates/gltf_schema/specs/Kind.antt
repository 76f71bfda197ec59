-- The legend of the table: what a member may be, and when it is written.
use Rattle.std.specs.Prelude.{ℕ, List, Bool, false, ◌||◌}
use Rattle.std.specs.Str.{bytes_eq}
use Rattle.gltf_base.specs.Lists.{ListName}
use Rattle.gltf_base.specs.Spelling.{Spelling}
use Rattle.gltf_base.specs.declared.choice.Form.{Form}
use Rattle.gltf_schema.specs.Tree.{Tree}

-- what is asked of an object beside the kinds of its members; most objects have no rule
pub data Rule : Type 0 where
  no_rule : Rule
  -- an accessor has data
  needs_data : Rule
  -- a camera has a projection
  needs_projection : Rule
  -- a spot light has its cone
  needs_cone : Rule
  -- a primitive has positions, and their accessor has bounds
  needs_positions : Rule
  -- a document requires only extensions that are enabled
  requires_enabled : Rule
  -- the channels of an animation name samplers of that animation
  holds_samplers : Rule

-- when a member may be missing, and when it is written
pub data Mark : Type 0 where
  -- it has to be there, and is always written
  required : Mark
  -- absent if it is missing or null; written if it is there. The format allows no null here; the
  -- ported crate reads it as absent
  optional : Mark
  -- the tree if it is missing; always written
  always : Tree → Mark
  -- the tree if it is missing; written if it is another
  unless : Tree → Mark
  -- absent if it is missing, and null is refused; written if it is there
  sometimes : Mark
  -- as optional, but absent is written as null
  or_null : Mark

mutual
  pub data Kind : Type 0 where
    -- a number below 2^32, a place in a list of the document
    IndexInto : ListName → Kind
    -- the image of a texture, as an index
    SourceImage : Kind
    -- the sampler of a channel, as an index into its own animation
    ChannelSampler : Kind
    U32 : Kind
    U64 : Kind
    -- a number of bytes from one element to the next
    Stride : Kind
    Number : Kind
    Numbers : ℕ → Kind
    Text : Kind
    Truth : Kind
    Any : Kind
    -- one of the spellings that are listed, else invalid
    Choice : Form → List Spelling → Kind
    -- a map of semantics to indexes into a list
    Attributes : ListName → Kind
    ListOf : Kind → Kind
    -- its rule, its rows, and whether members that no row names are kept
    Object : Rule → Rows → Bool → Kind

  pub data Rows : Type 0 where
    no_rows : Rows
    row : List ℕ → Mark → Kind → Rows → Rows

-- a line of the table: a member's name, mark and kind; lines are in the ported crate's order, which
-- is that of reports
infixr 4 ◌◂◌
abbrev pub ◌◂◌ : List ℕ × Mark × Kind → Rows → Rows
line ◂ rows = row line.0 line.1 line.2 rows

-- some row has the name
abbrev pub has_row : List ℕ → Rows → Bool
has_row n no_rows = false
has_row n (row m mark kind rows) = bytes_eq m n || has_row n rows
