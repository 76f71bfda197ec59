use Rattle.std.proofs.Common.{sym}
use Rattle.gltf_root.specs.Root.{root_tree}
use Rattle.gltf_root.specs.declared.root.mark.Mark.TheVariants.{Listed}
use Rattle.gltf_root.proofs.root.top_level.AnyRootItem.mark_of.Goals as goal

pub returns : goal.returns
returns g c = sym (g.met.T.TopLevel.needs_no_extension (root_tree c.args._root.now) Listed).1
