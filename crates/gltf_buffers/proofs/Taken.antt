-- What is taken from a limit, step by step.
use Rattle.std.proofs.Common.{◌≡◌, ℕ, zero, suc, ◌≤◌, ◌+◌, Bool, true, false, List, [], ◌∷◌, Some, None, subst, sym, ◌∙◌, ap, arith, take}
use Rattle.std.specs.Prelude.{slice_get, Option}
use Rattle.gltf_buffers.specs.Data.{is_data_uri}
use Rattle.gltf_buffers.specs.Sources.{Buffer}
use Rattle.gltf_buffers.specs.Limits.{Takes, unless, resolved, resolved_bytes}

pub takes_none : (limit : Option ℕ) → Takes 0 limit limit
takes_none None = tt
takes_none (Some n) = omega arith

pub takes_more : (m n : ℕ) (a b c : Option ℕ) → Takes m a b → Takes n b c → Takes (m + n) a c
takes_more m n None b c h k = tt
takes_more m n (Some x) None c h k = absurd h
takes_more m n (Some x) (Some y) None h k = absurd k
takes_more m n (Some x) (Some y) (Some z) h k = omega (arith, h, k)

pub takes_fewer : (m n : ℕ) (a b : Option ℕ) → m ≤ n → Takes n a b → Takes m a b
takes_fewer m n None b h k = tt
takes_fewer m n (Some x) None h k = absurd k
takes_fewer m n (Some x) (Some y) h k = omega (arith, h, k)

unless_le : (b : Bool) (m n : ℕ) → m ≤ n → unless b m ≤ unless b n
unless_le true m n h = omega arith
unless_le false m n h = h

resolved_le : (uri : Option (List ℕ)) (m n : ℕ) → m ≤ n → resolved uri m ≤ resolved uri n
resolved_le None m n h = omega arith
resolved_le (Some uri) m n h = unless_le (is_data_uri uri) m n h

-- the front of what a URI stands for
pub takes_front : (uri : Option (List ℕ)) (m n : ℕ) (a b : Option ℕ) → m ≤ n → Takes (resolved uri n) a b → Takes (resolved uri m) a b
takes_front uri m n a b h k = takes_fewer (resolved uri m) (resolved uri n) a b (resolved_le uri m n h) k

-- a data URI takes nothing
pub takes_no_data : (uri : List ℕ) (n : ℕ) (limit : Option ℕ) → is_data_uri uri ≡ true → Takes (resolved (Some uri) n) limit limit
takes_no_data uri n limit is = subst (λ b. Takes (unless b n) limit limit) (sym is) (takes_none limit)

-- any other URI takes its bytes
pub takes_given : (uri : List ℕ) (n : ℕ) (a b : Option ℕ) → is_data_uri uri ≡ false → Takes n a b → Takes (resolved (Some uri) n) a b
takes_given uri n a b is h = subst (λ c. Takes (unless c n) a b) (sym is) h

one_more : (buffers : List Buffer) (n : ℕ) (b : Buffer) → slice_get buffers n ≡ Some b → resolved_bytes (take (suc n) buffers) ≡ resolved_bytes (take n buffers) + resolved b.uri b.byte_length
one_more [] n b h = let no : None ≡ Some b = h in cc
one_more (x ∷ xs) zero b h = let both : Some x ≡ Some b = h in let same : x ≡ b = cc in subst (λ y. resolved x.uri x.byte_length + 0 ≡ 0 + resolved y.uri y.byte_length) same (omega arith)
one_more (x ∷ xs) (suc n) b h = let rest : resolved_bytes (take (suc n) xs) ≡ resolved_bytes (take n xs) + resolved b.uri b.byte_length = one_more xs n b h in omega (arith, rest)

-- what the first buffers take, and one more
pub takes_next : (buffers : List Buffer) (n : ℕ) (x : Buffer) (a b c : Option ℕ) → slice_get buffers n ≡ Some x → Takes (resolved_bytes (take n buffers)) a b → Takes (resolved x.uri x.byte_length) b c → Takes (resolved_bytes (take (n + 1) buffers)) a c
takes_next buffers n x a b c at h k =
    let next : suc n ≡ n + 1 = omega arith in
    let sum : resolved_bytes (take n buffers) + resolved x.uri x.byte_length ≡ resolved_bytes (take (n + 1) buffers) = sym (one_more buffers n x at) ∙ ap (λ m. resolved_bytes (take m buffers)) next in
    subst (λ m. Takes m a c) sum (takes_more (resolved_bytes (take n buffers)) (resolved x.uri x.byte_length) a b c h k)
