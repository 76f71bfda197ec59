-- What is closed refers to no item behind the end of a list.
use Rattle.std.proofs.Common.{◌≡◌, ◌≢◌, ◌<◌, ℕ, subst, arith}
use Rattle.std.proofs.lemmas.List.Elements.{All-weaker}
use Rattle.gltf_base.specs.Lists.{ListName}
use Rattle.gltf_schema.specs.Tree.{Tree, absent}
use Rattle.gltf_schema.specs.Kind.{Kind}
use Rattle.gltf_root.specs.Lists.{count_in}
use Rattle.gltf_validation_rules.specs.Context.{Context}
use Rattle.gltf_validation_rules.specs.Closed.{Resolves, IsClosed}
use Rattle.gltf_validation_rules.specs.Naming.{Avoids}
use Rattle.gltf_validation_rules.specs.References.{Reference, item_of, sampler_of, missing_image, unlisted, references}

same_list : (a b : ListName) (m n : ℕ) → item_of a m ≡ item_of b n → a ≡ b
same_list a b m n e = cc

same_number : (a b : ListName) (m n : ℕ) → item_of a m ≡ item_of b n → m ≡ n
same_number a b m n e = cc

module _ (named : ListName) (context : Context) where
  -- what resolves isn't the next item of a list
  apart : (r : Reference) → Resolves context r → r ≢ item_of named (count_in named context.root)
  apart (item_of other n) below = λ e.
      let within : n < count_in named context.root = subst (λ l. n < count_in l context.root) (same_list other named n (count_in named context.root) e) below in
      let next : n ≡ count_in named context.root = same_number other named n (count_in named context.root) e in
      omega (arith, within, next)
  apart (sampler_of animation n) below = λ e. cc
  apart missing_image h = λ e. cc
  apart unlisted h = absurd h

  pub closed_avoids : (kind : Kind) (t : Tree) → IsClosed kind t context absent → Avoids named (count_in named context.root) kind t
  closed_avoids kind t h = All-weaker (Resolves context) (λ r. r ≢ item_of named (count_in named context.root)) apart (references kind t absent) h
