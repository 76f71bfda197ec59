-- How a file is read from left to right (glTF 2.0, section 4.4), with the first fault that is met.
use Rattle.std.specs.Prelude.{◌≡◌, ℕ, zero, suc, ◌%◌, List, [], ◌∷◌, length, take, drop, Option, Some, None, option_map, Result, Ok, Err, nat_lt, ◌==◌, not, get_or, ◌-◌, if◌then◌else◌}
use Rattle.std.specs.Int.{w32, from_le_bytes}
use Rattle.gltf_buffers.specs.declared.error.GlbError.{GlbError}
use Rattle.gltf_buffers.specs.declared.error.GlbError.TheVariants.{HeaderCutOff, NoMagic, Version, Length, ChunkHeaderCutOff, ChunkUnaligned, ChunkCutOff, FirstChunk, JsonPadding, SecondJson, MisplacedBin}
use Rattle.gltf_buffers.specs.declared.glb.Glb.{Glb}
use Rattle.gltf_buffers.specs.Container.{json_kind, bin_kind, Parts}

infixl 10 ◌>>=◌
abbrev pub ◌>>=◌ : {A B : Type 0} → Result A GlbError → (A → Result B GlbError) → Result B GlbError
(Ok x) >>= f = f x
(Err e) >>= f = Err e

-- what a function returned, seen by view, is what reading gives
abbrev pub Gives : {X Y : Type 0} → (X → Y) → Result X GlbError → Result Y GlbError → Type 0
Gives view (Ok x) read = read ≡ Ok (view x)
Gives view (Err e) read = read ≡ Err e

-- the number that four bytes are, the least first, and the bytes behind them
abbrev pub number_at : GlbError → List ℕ → Result (ℕ × List ℕ) GlbError
number_at missing bytes = if nat_lt (length bytes) 4 then Err missing else Ok (from_le_bytes w32 (take 4 bytes), drop 4 bytes)

-- "glTF"
abbrev pub magic : ℕ
magic = 1179937895

-- the bytes behind the header: it has the magic, the version and the length of the file
unfoldable pub header_at : List ℕ → Result (List ℕ) GlbError
header_at bytes = do
  first ← number_at HeaderCutOff bytes
  if not (first.0 == magic) then Err NoMagic else do
    version ← number_at HeaderCutOff first.1
    if not (version.0 == 2) then Err (Version version.0) else do
      len ← number_at HeaderCutOff version.1
      if not (len.0 == length bytes) then Err (Length len.0) else Ok len.1

-- the kind and the data of a chunk, and the bytes behind it
unfoldable pub chunk_at : List ℕ → Result (ℕ × List ℕ × List ℕ) GlbError
chunk_at bytes = do
  len ← number_at ChunkHeaderCutOff bytes
  kind ← number_at ChunkHeaderCutOff len.1
  if not (len.0 % 4 == 0) then Err (ChunkUnaligned len.0)
      else if nat_lt (length kind.1) len.0 then Err (ChunkCutOff len.0)
      else Ok (kind.0, take len.0 kind.1, drop len.0 kind.1)

-- the data of the JSON chunk, and the bytes behind it
unfoldable pub json_at : List ℕ → Result (List ℕ × List ℕ) GlbError
json_at bytes = do
  c ← chunk_at bytes
  if not (c.0 == json_kind) then Err (FirstChunk c.0)
      else if get_or c.1 (length c.1 - 1) 1 == 0 then Err JsonPadding
      else Ok (c.1, c.2)

-- the data of the BIN chunk if it is the next one, and the bytes behind it
unfoldable pub bin_at : List ℕ → Result (Option (List ℕ) × List ℕ) GlbError
bin_at [] = Ok (None, [])
bin_at (b ∷ bytes) = do
  c ← chunk_at (b ∷ bytes)
  if c.0 == bin_kind then Ok (Some c.1, c.2) else Ok (None, b ∷ bytes)

-- chunks of other kinds, as many as there are or n
unfoldable pub others_at : ℕ → List ℕ → Result (Unit {0}) GlbError
others_at zero bytes = Ok tt
others_at (suc n) [] = Ok tt
others_at (suc n) (b ∷ bytes) = do
  c ← chunk_at (b ∷ bytes)
  if c.0 == json_kind then Err SecondJson
      else if c.0 == bin_kind then Err MisplacedBin
      else others_at n c.2

-- a file has fewer chunks than bytes
abbrev pub others_of : List ℕ → Result (Unit {0}) GlbError
others_of bytes = others_at (length bytes) bytes

-- the parts of a file, without where they lie in memory
abbrev pub parts_of : Glb → Parts
parts_of g = record { json = g.json.now; bin = option_map (λ b. b.now) g.bin }

unfoldable pub glb_of : List ℕ → Result Parts GlbError
glb_of bytes = do
  rest ← header_at bytes
  json ← json_at rest
  bin ← bin_at json.1
  others ← others_of bin.1
  Ok (record { json = json.0; bin = bin.0 })
