use Rattle.std.proofs.Common.{◌≡◌, drop}
use Rattle.gltf_root.specs.NodesWithin.{member_value}
use Rattle.gltf_root.proofs.wanted.value_of.Given as goal

-- no member before this one has the name
abbrev pub invariant-loop-member : goal.invariant-loop-member
invariant-loop-member l = member_value l.name l.members ≡ member_value l.name (drop l.member-index l.members)
