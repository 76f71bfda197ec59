-- What is read is a container with these parts.
use Rattle.std.proofs.Common.{◌≡◌, ℕ, zero, suc, ◌+◌, ◌-◌, ◌%◌, ◌^◌, ◌<◌, ◌≤◌, Bool, true, false, cond, eqb, not, ◌⊎◌, List, [], ◌∷◌, ◌++◌, length, get_or, take, drop, Option, Some, None, Result, Ok, Err, refl, sym, ap, subst, ◌∙◌, append_assoc, arith, inl, inr}
use Rattle.std.specs.Prelude.{IfSome, IfOk}
use Rattle.std.specs.List.{AllByRecursion}
use Rattle.std.specs.Int.{w32, from_le_bytes}
use Rattle.std.proofs.lemmas.Bool.{cases_lt, eqb-true, eqb-false}
use Rattle.std.proofs.lemmas.List.{take-append-drop, length-take, get_or-drop, get_or-take, get_or_past}
use Rattle.std.proofs.lemmas.List.Concat.{flat_map-cons}
use Rattle.std.proofs.lemmas.Nat.{le_bytes_4}
use Rattle.gltf_buffers.specs.declared.error.GlbError.{GlbError}
use Rattle.gltf_buffers.specs.declared.error.GlbError.TheVariants.{HeaderCutOff, NoMagic, Version, Length, FirstChunk, JsonPadding, SecondJson, MisplacedBin}
use Rattle.gltf_buffers.specs.declared.glb.Glb.{Glb}
use Rattle.gltf_buffers.specs.Container.{number, json_kind, bin_kind, chunk, IsContent, Parts, bin_chunk, IsOther, other_chunks, IsGlb}
use Rattle.gltf_buffers.specs.Reading.{◌>>=◌, Gives, number_at, magic, header_at, chunk_at, json_at, bin_at, others_at, others_of, glb_of, parts_of}
use Rattle.gltf_buffers.proofs.Steps.{after_len, after_version, after_magic, header, bind_ok, guard_ok, same_ok, ok_is, NumberRead, number_read, chunk_read, chunk_shortens}
use Rattle.gltf_buffers.proofs.Others.{behind}

abbrev pub IsBytes : List ℕ → Type 0
IsBytes bytes = (i : ℕ) → get_or bytes i 0 < 256

IsBytes-drop : (n : ℕ) (bytes : List ℕ) → IsBytes bytes → IsBytes (drop n bytes)
IsBytes-drop n bytes h i = rw get_or-drop (h (n + i))

IsBytes-take : (n : ℕ) (bytes : List ℕ) → IsBytes bytes → IsBytes (take n bytes)
IsBytes-take n bytes h i =
    elim (cases_lt i n) [
      | inl lt ↦ rw (get_or-take n bytes i 0 lt) (h i)
      | inr le ↦ rw (get_or_past (take n bytes) i 0 (omega (arith, length-take n bytes))) (omega arith)
    ]

-- what a reader took from the front
record Takes (bytes text rest : List ℕ) : Type 0 where
  parts : bytes ≡ text ++ rest
  rest_fits : IsBytes rest

Takes-then : (a x b y c : List ℕ) → Takes a x b → Takes b y c → Takes a (x ++ y) c
Takes-then a x b y c p q = record { parts = p.parts ∙ ap (λ (t : List ℕ). x ++ t) q.parts ∙ sym (append_assoc x y c); rest_fits = q.rest_fits }

below : (bytes : List ℕ) → IsBytes bytes → from_le_bytes w32 bytes < 2 ^ 32
below bytes fits = omega (arith, fits 0, fits 1, fits 2, fits 3)

number_takes : (bytes : List ℕ) (x : ℕ × List ℕ) → IsBytes bytes → NumberRead bytes x → Takes bytes (number x.0) x.1 × (x.0 < 2 ^ 32)
number_takes bytes x fits r =
    let front_fits = IsBytes-take 4 bytes fits in
    let front : number (from_le_bytes w32 (take 4 bytes)) ≡ take 4 bytes = le_bytes_4 (take 4 bytes) _ (omega (arith, length-take 4 bytes, r.long)) front_fits refl in
    subst (λ (y : ℕ × List ℕ). Takes bytes (number y.0) y.1 × (y.0 < 2 ^ 32)) r.is
    (record { parts = sym (take-append-drop 4 bytes) ∙ ap (λ (f : List ℕ). f ++ drop 4 bytes) (sym front); rest_fits = IsBytes-drop 4 bytes fits }, below (take 4 bytes) front_fits)

chunk_takes : (bytes : List ℕ) (c : ℕ × List ℕ × List ℕ) → IsBytes bytes → chunk_at bytes ≡ Ok c → Takes bytes (chunk c.0 c.1) c.2 × (c.0 < 2 ^ 32) × IsContent c.1
chunk_takes bytes c fits e =
    let r = chunk_read bytes c e in
    let n = r.len.0 in
    let body = r.kind.1 in
    let a = number_takes bytes r.len fits r.len_read in
    let b = number_takes r.len.1 r.kind a.0.rest_fits r.kind_read in
    let len : length (take n body) ≡ n = omega (arith, length-take n body, r.long) in
    let last : Takes body (take n body) (drop n body) = record { parts = sym (take-append-drop n body); rest_fits = IsBytes-drop n body b.0.rest_fits } in
    let behind_len = Takes-then r.len.1 (number r.kind.0) body (take n body) (drop n body) b.0 last in
    let all = Takes-then bytes (number n) r.len.1 (number r.kind.0 ++ take n body) (drop n body) a.0 behind_len in
    let whole : Takes bytes (chunk r.kind.0 (take n body)) (drop n body) = subst (λ (k : ℕ). Takes bytes (number k ++ number r.kind.0 ++ take n body) (drop n body)) (sym len) all in
    let content : IsContent (take n body) = record { short = omega (arith, len, a.1); aligned = ap (λ (k : ℕ). k % 4) len ∙ r.aligned } in
    subst (λ (y : ℕ × List ℕ × List ℕ). Takes bytes (chunk y.0 y.1) y.2 × (y.0 < 2 ^ 32) × IsContent y.1) r.is (whole, b.1, content)

-- ---- the header

header_takes : (bytes rest : List ℕ) → IsBytes bytes → header_at bytes ≡ Ok rest → Takes bytes (header (length bytes)) rest × (length bytes < 2 ^ 32)
unfolding header_at
header_takes bytes rest fits e =
    let a = bind_ok (number_at HeaderCutOff bytes) (after_magic bytes) rest e in
    let is_magic = same_ok a.0.0 magic NoMagic (number_at HeaderCutOff a.0.1 >>= after_version bytes) rest a.2 in
    let b = bind_ok (number_at HeaderCutOff a.0.1) (after_version bytes) rest is_magic.1 in
    let is_two = same_ok b.0.0 2 (Version b.0.0) (number_at HeaderCutOff b.0.1 >>= after_len bytes) rest b.2 in
    let c = bind_ok (number_at HeaderCutOff b.0.1) (after_len bytes) rest is_two.1 in
    let is_len = same_ok c.0.0 (length bytes) (Length c.0.0) (Ok c.0.1) rest c.2 in
    let t0 = number_takes bytes a.0 fits (number_read HeaderCutOff bytes a.0 a.1) in
    let t1 = number_takes a.0.1 b.0 t0.0.rest_fits (number_read HeaderCutOff a.0.1 b.0 b.1) in
    let t2 = number_takes b.0.1 c.0 t1.0.rest_fits (number_read HeaderCutOff b.0.1 c.0 c.1) in
    let two = Takes-then a.0.1 (number b.0.0) b.0.1 (number c.0.0) c.0.1 t1.0 t2.0 in
    let three = Takes-then bytes (number a.0.0) a.0.1 (number b.0.0 ++ number c.0.0) c.0.1 t0.0 two in
    let p0 : Takes bytes (number a.0.0 ++ number b.0.0 ++ number c.0.0) rest = subst (λ (r : List ℕ). Takes bytes (number a.0.0 ++ number b.0.0 ++ number c.0.0) r) (ok_is c.0.1 rest is_len.1) three in
    let p1 : Takes bytes (number a.0.0 ++ number b.0.0 ++ number (length bytes)) rest = subst (λ (l : ℕ). Takes bytes (number a.0.0 ++ number b.0.0 ++ number l) rest) is_len.0 p0 in
    let p2 : Takes bytes (number a.0.0 ++ number 2 ++ number (length bytes)) rest = subst (λ (v : ℕ). Takes bytes (number a.0.0 ++ number v ++ number (length bytes)) rest) is_two.0 p1 in
    (subst (λ (m : ℕ). Takes bytes (number m ++ number 2 ++ number (length bytes)) rest) is_magic.0 p2, omega (arith, is_len.0, t2.1))

-- ---- chunks

abbrev after_json : ℕ × List ℕ × List ℕ → Result (List ℕ × List ℕ) GlbError
after_json c = cond (not (eqb c.0 json_kind)) (Err (FirstChunk c.0)) (cond (eqb (get_or c.1 (length c.1 - 1) 1) 0) (Err JsonPadding) (Ok (c.1, c.2)))

record JsonTaken (bytes json rest : List ℕ) : Type 0 where
  takes : Takes bytes (chunk json_kind json) rest
  content : IsContent json
  end : get_or json (length json - 1) 1 ≡ 0 → ⊥

json_takes : (bytes : List ℕ) (x : List ℕ × List ℕ) → IsBytes bytes → json_at bytes ≡ Ok x → JsonTaken bytes x.0 x.1
unfolding json_at
json_takes bytes x fits e =
    let a = bind_ok (chunk_at bytes) after_json x e in
    let c = a.0 in
    let is_json = same_ok c.0 json_kind (FirstChunk c.0) (cond (eqb (get_or c.1 (length c.1 - 1) 1) 0) (Err JsonPadding) (Ok (c.1, c.2))) x a.2 in
    let end = guard_ok (eqb (get_or c.1 (length c.1 - 1) 1) 0) JsonPadding (Ok (c.1, c.2)) x is_json.1 in
    let t = chunk_takes bytes c fits a.1 in
    let made : List ℕ × List ℕ = (c.1, c.2) in
    subst (λ (y : List ℕ × List ℕ). JsonTaken bytes y.0 y.1) (ok_is made x end.1)
    (record { takes = subst (λ (k : ℕ). Takes bytes (chunk k c.1) c.2) is_json.0 t.0; content = t.2; end = eqb-false _ _ end.0 })

-- what a test chose
chosen : {A : Type 0} (b : Bool) (x y z : Result A GlbError) → cond b x y ≡ z → ((b ≡ true) × (x ≡ z)) ⊎ ((b ≡ false) × (y ≡ z))
chosen true x y z e = inl (refl, e)
chosen false x y z e = inr (refl, e)

record BinTaken (bytes : List ℕ) (bin : Option (List ℕ)) (rest : List ℕ) : Type 0 where
  takes : Takes bytes (bin_chunk bin) rest
  content : IfSome bin IsContent

abbrev after_bin : List ℕ → ℕ × List ℕ × List ℕ → Result (Option (List ℕ) × List ℕ) GlbError
after_bin bytes c = cond (eqb c.0 bin_kind) (Ok (Some c.1, c.2)) (Ok (None, bytes))

bin_takes : (bytes : List ℕ) (x : Option (List ℕ) × List ℕ) → IsBytes bytes → bin_at bytes ≡ Ok x → BinTaken bytes x.0 x.1
unfolding bin_at
bin_takes [] x fits e =
    let made : Option (List ℕ) × List ℕ = (None, []) in
    subst (λ (y : Option (List ℕ) × List ℕ). BinTaken [] y.0 y.1) (ok_is made x e) (record { takes = record { parts = refl; rest_fits = fits }; content = tt })
bin_takes (b ∷ bytes) x fits e =
    let a = bind_ok (chunk_at (b ∷ bytes)) (after_bin (b ∷ bytes)) x e in
    let c = a.0 in
    let t = chunk_takes (b ∷ bytes) c fits a.1 in
    let some : Option (List ℕ) × List ℕ = (Some c.1, c.2) in
    let none : Option (List ℕ) × List ℕ = (None, b ∷ bytes) in
    elim (chosen (eqb c.0 bin_kind) (Ok some) (Ok none) (Ok x) a.2) [
      | inl h ↦ subst (λ (y : Option (List ℕ) × List ℕ). BinTaken (b ∷ bytes) y.0 y.1) (ok_is some x h.1)
          (record { takes = subst (λ (k : ℕ). Takes (b ∷ bytes) (chunk k c.1) c.2) (eqb-true _ _ h.0) t.0; content = t.2 })
      | inr h ↦ subst (λ (y : Option (List ℕ) × List ℕ). BinTaken (b ∷ bytes) y.0 y.1) (ok_is none x h.1)
          (record { takes = record { parts = refl; rest_fits = fits }; content = tt })
    ]

record AreOthers (bytes : List ℕ) : Type 0 where
  others : List (ℕ × List ℕ)
  each : AllByRecursion IsOther others
  whole : bytes ≡ other_chunks others

others_take : (n : ℕ) (bytes : List ℕ) (u : Unit {0}) → IsBytes bytes → length bytes ≤ n → others_at n bytes ≡ Ok u → AreOthers bytes
unfolding others_at
others_take n [] u fits le e = record { others = []; each = tt; whole = refl }
others_take zero (b ∷ bytes) u fits le e = absurd (omega (arith, le))
others_take (suc n) (b ∷ bytes) u fits le e =
    let a = bind_ok (chunk_at (b ∷ bytes)) (behind n) u e in
    let c = a.0 in
    let no_json = guard_ok (eqb c.0 json_kind) SecondJson (cond (eqb c.0 bin_kind) (Err MisplacedBin) (others_at n c.2)) u a.2 in
    let no_bin = guard_ok (eqb c.0 bin_kind) MisplacedBin (others_at n c.2) u no_json.1 in
    let t = chunk_takes (b ∷ bytes) c fits a.1 in
    let shorter = chunk_shortens (b ∷ bytes) c a.1 in
    let r = others_take n c.2 u t.0.rest_fits (omega (arith, shorter, le)) no_bin.1 in
    record {
      others = (c.0, c.1) ∷ r.others;
      each = (record { kind = t.1; no_json = eqb-false _ _ no_json.0; no_bin = eqb-false _ _ no_bin.0; content = t.2 }, r.each);
      whole = t.0.parts ∙ ap (λ (x : List ℕ). chunk c.0 c.1 ++ x) r.whole ∙ sym (flat_map-cons (λ (x : ℕ × List ℕ). chunk x.0 x.1) (c.0, c.1) r.others);
    }

-- ---- a file

abbrev after_others : List ℕ → Option (List ℕ) → Unit {0} → Result Parts GlbError
after_others json bin u = Ok (record { json = json; bin = bin })

abbrev after_bins : List ℕ → Option (List ℕ) × List ℕ → Result Parts GlbError
after_bins json bin = others_of bin.1 >>= after_others json bin.0

abbrev after_jsons : List ℕ × List ℕ → Result Parts GlbError
after_jsons json = bin_at json.1 >>= after_bins json.0

abbrev after_header : List ℕ → Result Parts GlbError
after_header rest = json_at rest >>= after_jsons

pub glb_takes : (bytes : List ℕ) (p : Parts) → IsBytes bytes → glb_of bytes ≡ Ok p → IsGlb bytes p
unfolding glb_of
glb_takes bytes p fits e =
    let a = bind_ok (header_at bytes) after_header p e in
    let b = bind_ok (json_at a.0) after_jsons p a.2 in
    let json = b.0.0 in
    let c = bind_ok (bin_at b.0.1) (after_bins json) p b.2 in
    let bin = c.0.0 in
    let d = bind_ok (others_of c.0.1) (after_others json bin) p c.2 in
    let t0 = header_takes bytes a.0 fits a.1 in
    let t1 = json_takes a.0 b.0 t0.0.rest_fits b.1 in
    let t2 = bin_takes b.0.1 c.0 t1.takes.rest_fits c.1 in
    let t3 = others_take (length c.0.1) c.0.1 d.0 t2.takes.rest_fits (omega arith) d.1 in
    let made : Parts = record { json = json; bin = bin } in
    let body = chunk json_kind json ++ (bin_chunk bin ++ other_chunks t3.others) in
    let tail : a.0 ≡ body = t1.takes.parts ∙ ap (λ (x : List ℕ). chunk json_kind json ++ x) (t2.takes.parts ∙ ap (λ (x : List ℕ). bin_chunk bin ++ x) t3.whole) in
    let split : bytes ≡ header (length bytes) ++ body = t0.0.parts ∙ ap (λ (x : List ℕ). header (length bytes) ++ x) tail in
    let whole = split ∙ sym (append_assoc (header (length bytes)) (chunk json_kind json) (bin_chunk bin ++ other_chunks t3.others))
    ∙ sym (append_assoc (header (length bytes) ++ chunk json_kind json) (bin_chunk bin) (other_chunks t3.others)) in
    subst (λ (y : Parts). IsGlb bytes y) (ok_is made p d.2)
    (record { others = t3.others; are_others = t3.each; short = t0.1; whole = whole; json = t1.content; json_end = t1.end; bin = t2.content })

pub is_glb : (bytes : List ℕ) (r : Result Glb GlbError) → IsBytes bytes → Gives parts_of r (glb_of bytes) → IfOk r (λ glb. IsGlb bytes (parts_of glb))
is_glb bytes (Ok glb) fits given = glb_takes bytes (parts_of glb) fits given
is_glb bytes (Err e) fits given = tt
