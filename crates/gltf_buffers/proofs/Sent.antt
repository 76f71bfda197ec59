-- Bytes that a writer takes one piece after the other.
use Rattle.std.proofs.Common.{◌≡◌, ℕ, ◌+◌, List, [], ◌∷◌, ◌++◌, length, Option, Some, None, sym, ◌∙◌, ap, subst, append_assoc, replicate, take}
use Rattle.std.specs.Io.KnownBytes.{Appends}
use Rattle.gltf_buffers.specs.Container.{number, chunk}
use Rattle.gltf_buffers.specs.Writing.{padding_of, padded}
use Rattle.gltf_buffers.proofs.Joined.{take_fill, padding_short, length_padded}

pub sent_then : (old mid new : Option (List ℕ)) (a b : List ℕ) → Appends old mid a → Appends mid new b → Appends old new (a ++ b)
sent_then None mid new a b h k = tt
sent_then (Some xs) None new a b h k = absurd h
sent_then (Some xs) (Some ys) None a b h k = absurd k
sent_then (Some xs) (Some ys) (Some zs) a b h k = k ∙ ap (λ x. x ++ b) h ∙ append_assoc xs a b

pub sent_chunk : (kind fill : ℕ) (content fills : List ℕ) (o m1 m2 m3 new : Option (List ℕ)) (len p : ℕ) → p ≡ padding_of (length content) → len ≡ length content + p → fills ≡ take p (fill ∷ fill ∷ fill ∷ [])
    → Appends o m1 (number len) → Appends m1 m2 (number kind) → Appends m2 m3 content → Appends m3 new fills → Appends o new (chunk kind (padded fill content))
sent_chunk kind fill content fills o m1 m2 m3 new len p hp hn hf h1 h2 h3 h4 =
    let same : fills ≡ replicate (padding_of (length content)) fill = hf ∙ rw hp (take_fill fill (padding_of (length content)) (padding_short (length content))) in
    let count : len ≡ length (padded fill content) = hn ∙ ap (λ x. length content + x) hp ∙ sym (length_padded fill content) in
    let all : Appends o new ((number len ++ number kind) ++ (content ++ fills)) = sent_then o m2 new (number len ++ number kind) (content ++ fills) (sent_then o m1 m2 (number len) (number kind) h1 h2) (sent_then m2 m3 new content fills h3 h4) in
    let filled : Appends o new ((number len ++ number kind) ++ padded fill content) = subst (λ (xs : List ℕ). Appends o new ((number len ++ number kind) ++ (content ++ xs))) same all in
    subst (λ (x : ℕ). Appends o new ((number x ++ number kind) ++ padded fill content)) count filled
