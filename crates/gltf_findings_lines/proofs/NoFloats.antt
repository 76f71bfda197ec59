-- No number of a report in the validator's form is a float.
use Rattle.std.proofs.Common.{◌≡◌, ℕ, List, [], ◌∷◌, map, Option, Some, None, false, String, refl}
use Rattle.std.specs.declared.alloc.Global.{Global}
use Rattle.serde_json.specs.View.{items_of}
use Rattle.serde_json.specs.Written.{has_float, items_have_float}
use Rattle.gltf_findings_lines.specs.declared.file.File.{File}
use Rattle.gltf_findings_lines.specs.declared.choices.Shown.{Shown}
use Rattle.gltf_findings_lines.specs.declared.info.Contents.{Contents}
use Rattle.gltf_findings_lines.specs.declared.placed.Placed.{Placed}
use Rattle.gltf_findings_lines.specs.FindingLines.{finding_data, number_data}
use Rattle.gltf_findings_lines.specs.Info.{names_data, text_data, info_data}
use Rattle.gltf_findings_lines.specs.Khronos.{issues_data, khronos_data, message_at, message_data, refusal_data, refusal_message, unread_data}
use Rattle.gltf_findings_lines.specs.Located.{Where, byte, place, where_of, offset_data, pointer_data}

offset : (w : Where) → has_float (offset_data w) ≡ false
offset (byte n) = refl
offset (place p) = refl

pointer : (w : Where) → has_float (pointer_data w) ≡ false
pointer (byte n) = refl
pointer (place p) = refl

number : (n : Option ℕ) → has_float (number_data n) ≡ false
number None = refl
number (Some n) = refl

pub finding_without_float : (file : List ℕ) (x : Placed) → has_float (finding_data file x) ≡ false
finding_without_float file x = simp (number, offset, pointer)

message : (w : Where) (x : Shown) → has_float (message_at w x) ≡ false
message (byte n) x = refl
message (place p) x = refl

messages : (xs : List Shown) → items_have_float (items_of (map message_data xs)) ≡ false
messages [] = refl
messages (x ∷ xs) = rw (message (where_of x.finding.location) x) (messages xs)

names : (xs : List (String Global)) → has_float (names_data xs) ≡ false
names [] = refl
names (x ∷ xs) = names xs

text : (x : Option (List ℕ)) → has_float (text_data x) ≡ false
text None = refl
text (Some x) = refl

issues : (most : ℕ) (xs : List Shown) → has_float (issues_data most xs) ≡ false
issues most xs = simp messages

info : (i : Contents) → has_float (info_data i) ≡ false
unfolding info_data
info i = simp (names, text)

pub khronos_without_float : (file : File) (i : Contents) (most : ℕ) (xs : List Shown) → has_float (khronos_data file i most xs) ≡ false
unfolding khronos_data
khronos_without_float file i most xs = rw (info i, issues most xs) refl

pub unread_without_float : (file : File) (most : ℕ) (xs : List Shown) → has_float (unread_data file most xs) ≡ false
unfolding unread_data
unread_without_float file most xs = rw (issues most xs) refl

refusal : (code reason : List ℕ) (pointer : Option (List ℕ)) → has_float (refusal_message code reason pointer) ≡ false
refusal code reason None = refl
refusal code reason (Some pointer) = refl

pub refusal_without_float : (file : File) (code reason : List ℕ) (pointer : Option (List ℕ)) → has_float (refusal_data file (refusal_message code reason pointer)) ≡ false
unfolding refusal_data
refusal_without_float file code reason pointer = rw (refusal code reason pointer) refl
