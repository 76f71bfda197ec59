-- Steps of reading that did not fail.
use Rattle.std.proofs.Common.{◌≡◌, ℕ, ◌≤◌, ◌<◌, ◌%◌, Bool, true, false, cond, eqb, ltb, not, List, ◌++◌, length, take, drop, Result, Ok, Err, refl, ap, arith}
use Rattle.std.specs.Int.{w32, from_le_bytes}
use Rattle.std.proofs.lemmas.Bool.{ltb-false, eqb-true}
use Rattle.std.proofs.lemmas.List.{length-drop}
use Rattle.gltf_buffers.specs.declared.error.GlbError.{GlbError}
use Rattle.gltf_buffers.specs.declared.error.GlbError.TheVariants.{HeaderCutOff, NoMagic, Version, Length, ChunkHeaderCutOff, ChunkUnaligned, ChunkCutOff}
use Rattle.gltf_buffers.specs.Reading.{◌>>=◌, number_at, magic, chunk_at}
use Rattle.gltf_buffers.specs.Container.{number}

-- the value of a step that did not fail
pub bind_ok : {A B : Type 0} (r : Result A GlbError) (f : A → Result B GlbError) (y : B) → (r >>= f) ≡ Ok y → (x : A) × (r ≡ Ok x) × (f x ≡ Ok y)
bind_ok (Ok x) f y e = (x, refl, e)
bind_ok (Err d) f y e = absurd cc

-- a test that did not fail
pub guard_ok : {A : Type 0} (b : Bool) (d : GlbError) (r : Result A GlbError) (y : A) → cond b (Err d) r ≡ Ok y → (b ≡ false) × (r ≡ Ok y)
guard_ok true d r y e = absurd cc
guard_ok false d r y e = (refl, e)

not-false : (b : Bool) → not b ≡ false → b ≡ true
not-false true h = refl
not-false false h = absurd cc

-- a test that two numbers are the same which did not fail
pub same_ok : {A : Type 0} (m n : ℕ) (d : GlbError) (r : Result A GlbError) (y : A) → cond (not (eqb m n)) (Err d) r ≡ Ok y → (m ≡ n) × (r ≡ Ok y)
same_ok m n d r y e = let g = guard_ok (not (eqb m n)) d r y e in (eqb-true m n (not-false (eqb m n) g.0), g.1)

abbrev done : {A : Type 0} → A → Result A GlbError
done x = Ok x

pub ok_is : {A : Type 0} (x y : A) → done x ≡ done y → x ≡ y
ok_is x y e = cc

-- a number that was read
pub record NumberRead (bytes : List ℕ) (x : ℕ × List ℕ) : Type 0 where
  pub long : 4 ≤ length bytes
  pub is : (from_le_bytes w32 (take 4 bytes), drop 4 bytes) ≡ x

pub number_read : (missing : GlbError) (bytes : List ℕ) (x : ℕ × List ℕ) → number_at missing bytes ≡ Ok x → NumberRead bytes x
number_read missing bytes x e =
    let g = guard_ok (ltb (length bytes) 4) missing (Ok (from_le_bytes w32 (take 4 bytes), drop 4 bytes)) x e in
    record { long = ltb-false _ _ g.0; is = ok_is (from_le_bytes w32 (take 4 bytes), drop 4 bytes) x g.1 }

-- the data and the rest that a length cuts off
abbrev pub cut : ℕ → ℕ × List ℕ → Result (ℕ × List ℕ × List ℕ) GlbError
cut len kind = cond (not (eqb (len % 4) 0)) (Err (ChunkUnaligned len)) (cond (ltb (length kind.1) len) (Err (ChunkCutOff len)) (Ok (kind.0, take len kind.1, drop len kind.1)))

-- a chunk that was read: its length and its type, each with what is behind it
pub record ChunkRead (bytes : List ℕ) (c : ℕ × List ℕ × List ℕ) : Type 0 where
  pub len : ℕ × List ℕ
  pub kind : ℕ × List ℕ
  pub len_read : NumberRead bytes len
  pub kind_read : NumberRead len.1 kind
  pub aligned : len.0 % 4 ≡ 0
  pub long : len.0 ≤ length kind.1
  pub is : (kind.0, take len.0 kind.1, drop len.0 kind.1) ≡ c

pub chunk_read : (bytes : List ℕ) (c : ℕ × List ℕ × List ℕ) → chunk_at bytes ≡ Ok c → ChunkRead bytes c
unfolding chunk_at
chunk_read bytes c e =
    let a = bind_ok (number_at ChunkHeaderCutOff bytes) (λ len. number_at ChunkHeaderCutOff len.1 >>= cut len.0) c e in
    let b = bind_ok (number_at ChunkHeaderCutOff a.0.1) (cut a.0.0) c a.2 in
    let made : ℕ × List ℕ × List ℕ = (b.0.0, take a.0.0 b.0.1, drop a.0.0 b.0.1) in
    let g = same_ok (a.0.0 % 4) 0 (ChunkUnaligned a.0.0) (cond (ltb (length b.0.1) a.0.0) (Err (ChunkCutOff a.0.0)) (Ok made)) c b.2 in
    let h = guard_ok (ltb (length b.0.1) a.0.0) (ChunkCutOff a.0.0) (Ok made) c g.1 in
    record {
      len = a.0;
      kind = b.0;
      len_read = number_read ChunkHeaderCutOff bytes a.0 a.1;
      kind_read = number_read ChunkHeaderCutOff a.0.1 b.0 b.1;
      aligned = g.0;
      long = ltb-false _ _ h.0;
      is = ok_is made c h.1;
    }

rest_of_number : (bytes : List ℕ) (x : ℕ × List ℕ) → NumberRead bytes x → drop 4 bytes ≡ x.1
rest_of_number bytes x r = ap (λ (p : ℕ × List ℕ). p.1) r.is

number_shortens : (bytes : List ℕ) (x : ℕ × List ℕ) → NumberRead bytes x → length x.1 < length bytes
number_shortens bytes x r = rw (← rest_of_number bytes x r) (omega (arith, r.long, length-drop 4 bytes))

-- a chunk is at least a byte long
pub chunk_shortens : (bytes : List ℕ) (c : ℕ × List ℕ × List ℕ) → chunk_at bytes ≡ Ok c → length c.2 < length bytes
chunk_shortens bytes c e =
    let r = chunk_read bytes c e in
    let rest : drop r.len.0 r.kind.1 ≡ c.2 = ap (λ (p : ℕ × List ℕ × List ℕ). p.2) r.is in
    rw (← rest) (omega (arith, length-drop r.len.0 r.kind.1, number_shortens bytes r.len r.len_read, number_shortens r.len.1 r.kind r.kind_read))

-- what follows the numbers of the header
abbrev pub after_len : List ℕ → ℕ × List ℕ → Result (List ℕ) GlbError
after_len bytes len = cond (not (eqb len.0 (length bytes))) (Err (Length len.0)) (Ok len.1)

abbrev pub after_version : List ℕ → ℕ × List ℕ → Result (List ℕ) GlbError
after_version bytes version = cond (not (eqb version.0 2)) (Err (Version version.0)) (number_at HeaderCutOff version.1 >>= after_len bytes)

abbrev pub after_magic : List ℕ → ℕ × List ℕ → Result (List ℕ) GlbError
after_magic bytes first = cond (not (eqb first.0 magic)) (Err NoMagic) (number_at HeaderCutOff first.1 >>= after_version bytes)

abbrev pub header : ℕ → List ℕ
header len = number magic ++ number 2 ++ number len
