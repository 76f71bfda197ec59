-- The list is always there.
use Rattle.std.proofs.Common.{◌≡◌, false, refl, sym, ap}
use Rattle.std.proofs.lemmas.Option.{none-some}
use Rattle.gltf_root.specs.Lists.{is_there}
use Rattle.gltf_root.specs.Root.{root_tree}
use Rattle.gltf_root.specs.declared.root.mark.Mark.TheVariants.{Listed}
use Rattle.gltf_root.proofs.root.top_level.AnyRootItem.list_of_mut.Goals as goal

pub returns : goal.returns
returns g c =
    let there = (g.met.T.TopLevel.needs_no_extension (root_tree c.args.root.now) Listed).0 in (
      refl,
      record {
        writes_back = tt;
        lent = ap (λ list. list.items) c.list_in_mut.ensures.lent;
        missing = (λ h. absurd (none-some _ (sym h)), λ (h : is_there g.T.Listed.list (root_tree c.args.root.now) ≡ false). absurd cc);
      },
    )
