-- The contents of the buffers so far.
use Rattle.std.proofs.Common.{◌≡◌, ℕ, zero, suc, refl, ◌<◌, ◌≤◌, ◌+◌, Bool, true, false, List, [], ◌∷◌, ◌++◌, length, Some, None, subst, sym, ◌∙◌, ap, arith, get_or, inl, inr}
use Rattle.std.specs.Prelude.{slice_get, Option, option_map, Result, Ok, Err}
use Rattle.std.specs.Bool.{MatchBool}
use Rattle.std.proofs.lemmas.Bool.{cases_lt}
use Rattle.std.proofs.lemmas.List.{length_push, get_or_push, get_or_append_left}
use Rattle.std.proofs.lemmas.Option.{slice_get_within, slice_get-get_or, get_or_from_slice_get, slice_get_past}
use Rattle.gltf_buffers.specs.declared.content.Content.{Content}
use Rattle.gltf_buffers.specs.declared.fault.BufferFault.{BufferFault}
use Rattle.gltf_buffers.specs.declared.fault.BufferFault.TheVariants.{Unresolved, Short, Memory}
use Rattle.gltf_buffers.specs.Data.{is_data_uri, data_text, IsData}
use Rattle.gltf_buffers.specs.Sources.{Buffer, IsSource, IsContent, HaveContents, AreContents}
use Rattle.gltf_buffers.specs.Faults.{IsUriFault, IsSourceFault, IsFaultOf, IsBufferFault}
use Rattle.gltf_buffers.specs.Buffered.{content_bytes}

-- what may be given for each URI
abbrev pub Given : Type 0 → Type 1
Given E = List ℕ → Result (List ℕ) E → Type 0

-- nothing may be given later that might not be given before
abbrev pub IsKept : {E : Type 0} → Given E → Given E → Type 0
IsKept {E} before after = (uri : List ℕ) (given : Result (List ℕ) E) → after uri given → before uri given

-- the contents of the first buffers
pub record AreFirst {E : Type 0} (before after : List ℕ → Result (List ℕ) E → Type 0) (bin : Option (List ℕ)) (buffers : List Buffer) (contents : List Content) (bound : ℕ) : Type 0 where
  pub len : length contents ≡ bound
  pub each : (n : ℕ) (b : Buffer) (c : Content) → slice_get buffers n ≡ Some b → slice_get contents n ≡ Some c → IsContent before bin n b (content_bytes c)
  pub kept : (uri : List ℕ) (given : Result (List ℕ) E) → after uri given → before uri given

-- those of no buffer
pub none_yet : {E : Type 0} (before : Given E) (bin : Option (List ℕ)) (buffers : List Buffer) (contents : List Content) → contents ≡ [] → AreFirst before before bin buffers contents 0
none_yet before bin buffers contents e = record {
  len = ap length e;
  each = λ n b c at_b at_c. let no : None ≡ Some c = ap (λ xs. slice_get xs n) (sym e) ∙ at_c in cc;
  kept = λ uri given h. h;
}

other_case : (b : Bool) (P Q R : Type 0) → (Q → R) → MatchBool b P Q → MatchBool b P R
other_case true P Q R f h = h
other_case false P Q R f h = f h

source_before : {E : Type 0} (before after : Given E) (bin : Option (List ℕ)) (n : ℕ) (uri : Option (List ℕ)) (whole : List ℕ) → IsKept before after → IsSource after bin n uri whole → IsSource before bin n uri whole
source_before before after bin n None whole k h = h
source_before before after bin n (Some uri) whole k h = other_case (is_data_uri uri) (IsData (data_text uri) whole) (after uri (Ok whole)) (before uri (Ok whole)) (k uri (Ok whole)) h

content_before : {E : Type 0} (before after : Given E) (bin : Option (List ℕ)) (n : ℕ) (b : Buffer) (bytes : List ℕ) → IsKept before after → IsContent after bin n b bytes → IsContent before bin n b bytes
content_before before after bin n b bytes k h = record {
  whole = h.whole;
  source = source_before before after bin n b.uri h.whole k h.source;
  enough = h.enough;
  front = h.front;
  exact = h.exact;
}

uri_fault_before : {E : Type 0} (before after : Given E) (n : ℕ) (uri : List ℕ) (f : BufferFault E) → IsKept before after → IsUriFault after n uri f → IsUriFault before n uri f
uri_fault_before before after n uri (Unresolved m e) k h = (h.0, h.1, k uri (Err e) h.2)
uri_fault_before before after n uri f k h = h

source_fault_before : {E : Type 0} (before after : Given E) (bin : Option (List ℕ)) (n : ℕ) (uri : Option (List ℕ)) (f : BufferFault E) → IsKept before after → IsSourceFault after bin n uri f → IsSourceFault before bin n uri f
source_fault_before before after bin n (Some uri) f k h = uri_fault_before before after n uri f k h
source_fault_before before after bin n None f k h = h

fault_before : {E : Type 0} (before after : Given E) (bin : Option (List ℕ)) (n : ℕ) (b : Buffer) (f : BufferFault E) → IsKept before after → IsFaultOf after bin n b f → IsFaultOf before bin n b f
fault_before before after bin n b (Short m found) k h = (h.0, h.1, source_before before after bin n b.uri h.1 k h.2, h.3, h.4)
fault_before before after bin n b f k h = source_fault_before before after bin n b.uri f k h

is_there : {X : Type 0} (xs : List X) (m : ℕ) → m < length xs → (x : X) × (slice_get xs m ≡ Some x)
is_there [] m h = absurd (omega (arith, h))
is_there (x ∷ xs) zero h = (x, refl)
is_there (x ∷ xs) (suc m) h = is_there xs m (omega (arith, h))

more : {E : Type 0} (before after last : Given E) (bin : Option (List ℕ)) (buffers : List Buffer) (contents : List Content) (n : ℕ) (a : Buffer) (p : Content) → AreFirst before after bin buffers contents n → slice_get buffers n ≡ Some a → IsContent after bin n a (content_bytes p) → IsKept after last → AreFirst before last bin buffers (contents ++ p ∷ []) (n + 1)
more before after last bin buffers contents n a p first at is k = record {
  len = length_push contents p ∙ ap (λ k. k + 1) first.len;
  each = λ m b q at_b at_q.
      let read : get_or (contents ++ p ∷ []) m q ≡ q = get_or_from_slice_get (contents ++ p ∷ []) m q q at_q in
      elim (cases_lt m (length contents)) [
        | inl early ↦
            let old : get_or contents m q ≡ q = sym (get_or_append_left contents (p ∷ []) q m early) ∙ read in
            first.each m b q at_b (slice_get-get_or contents m q early ∙ ap Some old)
        | inr late ↦
            let small : m < length contents + 1 = subst (λ k. m < k) (length_push contents p) (slice_get_within (contents ++ p ∷ []) m q at_q) in
            let last_one : length contents ≡ m = omega (arith, small, late) in
            let same : p ≡ q = sym (get_or_push contents p q m last_one) ∙ read in
            let number : n ≡ m = sym first.len ∙ last_one in
            let here : slice_get buffers m ≡ Some a = subst (λ k. slice_get buffers k ≡ Some a) number at in
            let both : Some a ≡ Some b = sym here ∙ at_b in
            let buffer : a ≡ b = cc in
            let old : IsContent before bin n a (content_bytes p) = content_before before after bin n a (content_bytes p) first.kept is in
            subst (λ x. IsContent before bin m b (content_bytes x)) same (subst (λ x. IsContent before bin m x (content_bytes p)) buffer (subst (λ k. IsContent before bin k a (content_bytes p)) number old))
      ];
  kept = λ uri given h. first.kept uri given (k uri given h);
}

-- what a push leaves
pub pushed : {E : Type 0} (before after last : Given E) (bin : Option (List ℕ)) (buffers : List Buffer) (contents longer : List Content) (n : ℕ) (a : Buffer) (p : Content) → longer ≡ contents ++ p ∷ [] → AreFirst before after bin buffers contents n → slice_get buffers n ≡ Some a → IsContent after bin n a (content_bytes p) → IsKept after last → AreFirst before last bin buffers longer (n + 1)
pushed before after last bin buffers contents longer n a p e first at is k = subst (λ xs. AreFirst before last bin buffers xs (n + 1)) (sym e) (more before after last bin buffers contents n a p first at is k)

-- each buffer below the bound has its bytes
have_contents : {E : Type 0} (before after : Given E) (bin : Option (List ℕ)) (buffers : List Buffer) (contents : List Content) (bound : ℕ) → AreFirst before after bin buffers contents bound → HaveContents before bin buffers bound (λ n. option_map content_bytes (slice_get contents n))
have_contents before after bin buffers contents bound first = λ n b small at.
    let there = is_there contents n (subst (λ k. n < k) (sym first.len) small) in
    (content_bytes there.0, ap (option_map content_bytes) there.1, first.each n b there.0 at there.1)

pub are_contents : {E : Type 0} (before after : Given E) (bin : Option (List ℕ)) (buffers : List Buffer) (contents : List Content) → AreFirst before after bin buffers contents (length buffers) → AreContents before bin buffers (λ n. option_map content_bytes (slice_get contents n))
are_contents before after bin buffers contents first = record {
  each = have_contents before after bin buffers contents (length buffers) first;
  none = λ n past. ap (option_map content_bytes) (slice_get_past contents n (subst (λ k. k ≤ n) (sym first.len) past));
}

earlier : {E : Type 0} (before after : Given E) (bin : Option (List ℕ)) (buffers : List Buffer) (contents : List Content) (n : ℕ) → AreFirst before after bin buffers contents n → (k : ℕ) (c : Buffer) → k < n → slice_get buffers k ≡ Some c → (bytes : List ℕ) × IsContent before bin k c bytes
earlier before after bin buffers contents n first k c small at =
    let h = have_contents before after bin buffers contents n first k c small at in
    (h.0, h.2)

-- a fault is the first one
pub first_fault : {E : Type 0} (before after : Given E) (bin : Option (List ℕ)) (buffers : List Buffer) (contents : List Content) (n : ℕ) (a : Buffer) (f : BufferFault E) → AreFirst before after bin buffers contents n → slice_get buffers n ≡ Some a → IsFaultOf after bin n a f → IsBufferFault before bin buffers f
first_fault before after bin buffers contents n a (Memory e) first at is = tt
first_fault before after bin buffers contents n a f first at is = (n, a, at, fault_before before after bin n a f first.kept is, earlier before after bin buffers contents n first)
