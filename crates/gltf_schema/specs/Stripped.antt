-- Values without what applications add to them: the `extras` of objects (glTF 2.0, sections 3.12
-- and 5.16), or the unknown members that objects keep, as those of unknown extensions.
use Rattle.std.specs.Prelude.{ℕ, List, Bool, false, ◌&&◌, codes, if◌then◌else◌}
use Rattle.std.specs.Str.{bytes_eq}
use Rattle.serde_json.specs.Data.{Members, no_members}
use Rattle.gltf_schema.specs.Tree.{Tree, absent, list, object, Trees, end, with_tree}
use Rattle.gltf_schema.specs.Kind.{Mark, Kind, ListOf, Object, Rows, row}
use Rattle.gltf_schema.specs.Read.{left}
use Rattle.gltf_schema.specs.OfKind.{may_be_absent}
use Rattle.gltf_schema.specs.declared.stripping.Strip.{Strip}
use Rattle.gltf_schema.specs.declared.stripping.Strip.TheVariants.{Extras, Unknown}

-- members of this name are stripped
abbrev pub strips_name : Strip → List ℕ → Bool
strips_name Extras n = bytes_eq n (codes "extras")
strips_name Unknown n = false

-- a row's member: absent if it is stripped, which none is that has to be there
abbrev pub member_left : Strip → List ℕ → Mark → Tree → Tree
member_left what n mark t = if may_be_absent mark && strips_name what n then absent else t

-- the members that no row names; an object that keeps no such members has none
abbrev pub others_left : Strip → Bool → Members → Members
others_left Extras keeps ms = left keeps ms
others_left Unknown keeps ms = no_members

abbrev pub each_tree : (Tree → Tree) → Trees → Trees
each_tree f end = end
each_tree f (with_tree t ts) = with_tree (f t) (each_tree f ts)

abbrev mutual
  -- the tree of a kind, stripped at every depth; what is kept as any JSON stays as it is
  pub stripped : Strip → Kind → Tree → Tree
  stripped what (ListOf kind) (list ts) = list (each_tree (stripped what kind) ts)
  stripped what (Object rule rows keeps) (object ts others) = object (stripped_rows what rows ts) (others_left what keeps others)
  stripped what _ t = t

  -- each row's member, in the rows' order
  pub stripped_rows : Strip → Rows → Trees → Trees
  stripped_rows what (row n mark kind rows) (with_tree t ts) = with_tree (member_left what n mark (stripped what kind t)) (stripped_rows what rows ts)
  stripped_rows what _ ts = ts
