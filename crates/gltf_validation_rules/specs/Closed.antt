-- Trees in which every reference resolves.
use Rattle.std.specs.Prelude.{◌≡◌, ◌<◌, true}
use Rattle.std.specs.List.{All}
use Rattle.gltf_schema.specs.Tree.{Tree}
use Rattle.gltf_schema.specs.Kind.{Kind}
use Rattle.gltf_root.specs.Lists.{count_in, sampler_count}
use Rattle.gltf_validation_rules.specs.Context.{Context}
use Rattle.gltf_validation_rules.specs.References.{Reference, item_of, sampler_of, missing_image, unlisted, references}

-- an index is below the length of its list, and nothing is unlisted. A texture may lack an image
-- only if the rules say so, as in the ported crate
abbrev pub Resolves : Context → Reference → Type 0
Resolves context (item_of named n) = n < count_in named context.root
Resolves context (sampler_of animation n) = n < sampler_count animation
Resolves context missing_image = context.rules.empty_texture ≡ true
Resolves context unlisted = ⊥

-- each reference in a tree of a kind resolves, where the last tree is the animation around it, or
-- absent; what a tree lacks refers to nothing
abbrev pub IsClosed : Kind → Tree → Context → Tree → Type 0
IsClosed kind t context animation = All (Resolves context) (references kind t animation)
