-- What calls of a writer, one after another, do to its known bytes.
use Rattle.std.proofs.Common.{ℕ, ◌+◌, ◌-◌, ◌≤◌, List, Option, length, take, drop, subst, sym, take_all}
use Rattle.std.proofs.Math.Seq.{take-add}
use Rattle.std.proofs.lemmas.List.{take_rest}
use Rattle.std.specs.Io.KnownBytes.{Appends, Keeps}
use Rattle.std.proofs.KnownBytes.{Appends-trans, Appends-kept, Appends-nil}
use Rattle.gltf_base.specs.Device.{AppendsFront}

-- one more front of the rest was written
pub Appends-more : (a b c : Option (List ℕ)) (text : List ℕ) (at n : ℕ) → Appends a b (take at text)
    → Appends b c (take n (take (length text - at) (drop at text))) → Appends a c (take (at + n) text)
Appends-more a b c text at n p q = subst (Appends a c) (sym (take-add at n text)) (Appends-trans a b c _ _ p (rw take_rest at q))

-- the call that failed took nothing
pub Appends-broken : (a b c : Option (List ℕ)) (text : List ℕ) (at : ℕ) → at ≤ length text → Appends a b (take at text) → Keeps b c → AppendsFront a c text
Appends-broken a b c text at within p q = record { count = at; within = within; appends = Appends-kept a b c _ p q }

pub Appends-whole : (a b : Option (List ℕ)) (text : List ℕ) (at : ℕ) → length text ≤ at → Appends a b (take at text) → Appends a b text
Appends-whole a b text at all p = subst (Appends a b) (take_all at text all) p

-- the whole is a front
pub Appends-front : (a b : Option (List ℕ)) (text : List ℕ) (at : ℕ) → length text ≤ at → at ≤ length text → Appends a b (take at text) → AppendsFront a b text
Appends-front a b text at all within p = record { count = at; within = within; appends = p }

pub ruleset writes = (Appends-front, Appends-more, Appends-broken, Appends-whole, Appends-nil)
