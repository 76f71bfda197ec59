-- What bytes are read as, from what is known of their text and of their reader.
use Rattle.std.proofs.Common.{◌≡◌, ℕ, true, false, List, Option, Some, None, option_map, IsUtf8, ⊎_elim, Result, Ok, Err, IfOk, IfErr, IfSome, refl}
use Rattle.std.specs.Str.{is_utf8}
use Rattle.std.proofs.lemmas.Bool.{cases_Bool}
use Rattle.std.proofs.lemmas.Str.{IsUtf8-from_is_utf8, is_utf8-from_IsUtf8}
use Rattle.std.proofs.KnownBytes.{Consumes-whole}
use Rattle.serde_json.specs.Data.{Data}
use Rattle.serde_json.specs.Read.{read as read_json}
use Rattle.gltf_schema.specs.Outcome.{Reads}
use Rattle.gltf_schema.specs.Plain.{is_plain}
use Rattle.gltf_schema.proofs.ReadPlain.{decoded_plain}
use Rattle.gltf_root.specs.Decoded.{IsDecoded}
use Rattle.gltf_schema.specs.Read.{read}
use Rattle.gltf_schema.specs.Tree.{Tree}
use Rattle.gltf_base.specs.declared.error.Error.{Error}
use Rattle.gltf_base.specs.declared.error.Error.TheVariants.{Json, Schema, InvalidItem, Read, Write, Memory, TooLong}
use Rattle.gltf_root.specs.Answer.{Answer, no_json, tree_answer, answer, IsAnswer, IsReadAnswer, IsReading, IsRefusal}
use Rattle.gltf_base.specs.Device.{Seen, IsWithin, IsCause, IsReadError, IsReadToEnd}
use Rattle.gltf_root.specs.Root.{root_kind, root_tree}
use Rattle.gltf_root.specs.RootDerived.{root_sound}
use Rattle.gltf_root.specs.declared.root.Root.{Root}

-- the answer for bytes of a JSON value is that of the table
pub answer-json : (bytes : List ℕ) (d : Data) → IsUtf8 bytes → read_json bytes ≡ Some d → answer bytes ≡ tree_answer (read root_kind d)
answer-json bytes d utf8 is = rw (is_utf8-from_IsUtf8 bytes utf8, is)

-- bytes that are no text, or none of a JSON value, are no JSON
pub answer-no_json : (bytes : List ℕ) → (IsUtf8 bytes → read_json bytes ≡ None) → answer bytes ≡ no_json
answer-no_json bytes none = ⊎_elim
    (λ (yes : is_utf8 bytes ≡ true). rw (yes, none (IsUtf8-from_is_utf8 bytes yes)))
    (λ (no : is_utf8 bytes ≡ false). rw no)
    (cases_Bool (is_utf8 bytes))

-- what the table reads is the answer
IsAnswer-tree : (r : Result Root Error) (t : Option Tree) → Reads root_tree r t → IsAnswer (tree_answer t) r
IsAnswer-tree (Ok root) t h = rw h
IsAnswer-tree (Err Json) t h = absurd h
IsAnswer-tree (Err Schema) t h = rw h
IsAnswer-tree (Err (Memory e)) t h = tt
IsAnswer-tree (Err Read) t h = absurd h
IsAnswer-tree (Err Write) t h = absurd h
IsAnswer-tree (Err TooLong) t h = absurd h
IsAnswer-tree (Err InvalidItem) t h = absurd h

-- what the table reads of the bytes' value is the bytes' answer
pub IsAnswer-json : (bytes : List ℕ) (d : Data) (r : Result Root Error) → IsUtf8 bytes → read_json bytes ≡ Some d
    → Reads root_tree r (read root_kind d) → IsAnswer (answer bytes) r
IsAnswer-json bytes d r utf8 is h = rw (answer-json bytes d utf8 is) (IsAnswer-tree r (read root_kind d) h)

pub ruleset answers = (IsAnswer-json, answer-no_json)

undecoded : (r : Result Root Error) → IsDecoded {X = Root} {Y = Tree} root_tree None r → IsAnswer no_json r
undecoded (Ok root) h = absurd h
undecoded (Err Json) h = refl
undecoded (Err Schema) h = absurd h
undecoded (Err (Memory e)) h = tt
undecoded (Err Read) h = absurd h
undecoded (Err Write) h = absurd h
undecoded (Err TooLong) h = absurd h
undecoded (Err InvalidItem) h = absurd h

decoded_answer : (bytes : List ℕ) (o : Option Data) (r : Result Root Error) → IsUtf8 bytes → read_json bytes ≡ o
    → IsDecoded root_tree (option_map (read root_kind) o) r → IsAnswer (answer bytes) r
decoded_answer bytes None r utf8 is h = rw (answer-no_json bytes (λ _. is)) (undecoded r h)
decoded_answer bytes (Some d) r utf8 is h = IsAnswer-json bytes d r utf8 is h

-- what is decoded from a text is the answer of its bytes
pub IsAnswer-decoded : (bytes : List ℕ) (r : Result Root Error) → IsUtf8 bytes → IsDecoded root_tree (option_map (read root_kind) (read_json bytes)) r → IsAnswer (answer bytes) r
IsAnswer-decoded bytes r utf8 h = decoded_answer bytes (read_json bytes) r utf8 refl h

-- and plain
pub decoded_is_plain : (o : Option Data) (r : Result Root Error) → IsDecoded root_tree (option_map (read root_kind) o) r → IfOk r (λ root. is_plain root_kind (root_tree root) ≡ true)
decoded_is_plain None (Ok root) h = absurd h
decoded_is_plain None (Err e) h = tt
decoded_is_plain (Some d) r h = decoded_plain root_kind root_tree r d root_sound h

IsReadAnswer-answer : (due : Answer) (r : Result Root Error) → IsAnswer due r → IsReadAnswer due r
IsReadAnswer-answer due (Ok root) h = h
IsReadAnswer-answer due (Err Json) h = h
IsReadAnswer-answer due (Err Schema) h = h
IsReadAnswer-answer due (Err (Memory e)) h = tt
IsReadAnswer-answer due (Err Read) h = tt
IsReadAnswer-answer due (Err Write) h = absurd h
IsReadAnswer-answer due (Err TooLong) h = tt
IsReadAnswer-answer due (Err InvalidItem) h = absurd h

IsReadAnswer-gave_up : (due : Answer) (e : Error) → IsReadError e → IsReadAnswer due (Err e)
IsReadAnswer-gave_up due Json h = absurd h
IsReadAnswer-gave_up due Schema h = absurd h
IsReadAnswer-gave_up due (Memory e) h = tt
IsReadAnswer-gave_up due Read h = tt
IsReadAnswer-gave_up due Write h = absurd h
IsReadAnswer-gave_up due TooLong h = tt
IsReadAnswer-gave_up due InvalidItem h = absurd h

-- bytes that were read to their end are those that the reader had
pub told-all : (old new : Option (List ℕ)) (bytes : List ℕ) (r : Result Root Error) → IsReadToEnd old new bytes → IsAnswer (answer bytes) r
    → IfSome old (λ told. IsReadAnswer (answer told) r)
told-all old new bytes r all h =
    Consumes-whole old new bytes (λ told. IsReadAnswer (answer told) r) all.gives all.at_end (IsReadAnswer-answer _ r h)

pub told-gave_up : (old : Option (List ℕ)) (e : Error) → IsReadError e → IfSome old (λ told. IsReadAnswer (answer told) (Err e))
told-gave_up None e h = tt
told-gave_up (Some told) e h = IsReadAnswer-gave_up (answer told) e h

-- the answer of bytes that were read to their end within the limits
pub IsReading-within : (bytes calls : ℕ) (seen : Seen) (due : Answer) (r : Result Root Error) → IsWithin bytes calls seen → IsAnswer due r
    → IsReading bytes calls seen r
IsReading-within bytes calls seen due (Ok root) within h = within
IsReading-within bytes calls seen due (Err Json) within h = within
IsReading-within bytes calls seen due (Err Schema) within h = within
IsReading-within bytes calls seen due (Err (Memory e)) within h = within.works
IsReading-within bytes calls seen due (Err Read) within h = absurd h
IsReading-within bytes calls seen due (Err Write) within h = absurd h
IsReading-within bytes calls seen due (Err TooLong) within h = absurd h
IsReading-within bytes calls seen due (Err InvalidItem) within h = absurd h

-- the cause of a reading that was given up
pub IsReading-cause : (bytes calls : ℕ) (seen : Seen) (e : Error) → IsCause bytes calls seen e → IsReading bytes calls seen (Err e)
IsReading-cause bytes calls seen Json h = absurd h
IsReading-cause bytes calls seen Schema h = absurd h
IsReading-cause bytes calls seen (Memory e) h = h
IsReading-cause bytes calls seen Read h = h
IsReading-cause bytes calls seen Write h = absurd h
IsReading-cause bytes calls seen TooLong h = h
IsReading-cause bytes calls seen InvalidItem h = absurd h

-- what is answered in the place of a document is a refusal
pub refused-answer : (due : Answer) (r : Result Root Error) → IsAnswer due r → IfErr r IsRefusal
refused-answer due (Ok root) h = tt
refused-answer due (Err Json) h = tt
refused-answer due (Err Schema) h = tt
refused-answer due (Err (Memory e)) h = tt
refused-answer due (Err Read) h = absurd h
refused-answer due (Err Write) h = absurd h
refused-answer due (Err TooLong) h = absurd h
refused-answer due (Err InvalidItem) h = absurd h

pub refused-gave_up : (e : Error) → IsReadError e → IsRefusal e
refused-gave_up Json h = tt
refused-gave_up Schema h = tt
refused-gave_up (Memory e) h = tt
refused-gave_up Read h = tt
refused-gave_up Write h = absurd h
refused-gave_up TooLong h = tt
refused-gave_up InvalidItem h = absurd h

pub ruleset readings = (told-all, told-gave_up, IsReading-within, IsReading-cause, refused-answer, refused-gave_up)
