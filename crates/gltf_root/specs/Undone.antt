-- Which of the extension objects around a list a document has, and the document after the last push
-- onto that list is taken back.
use Rattle.std.specs.Prelude.{ℕ, List, if◌then◌else◌}
use Rattle.gltf_base.specs.Lists.{ListName}
use Rattle.gltf_schema.specs.Tree.{Tree, Trees, absent, is_absent, end, with_tree}
use Rattle.gltf_root.specs.Lists.{extensions_name, lights_name, variants_name, extensions_in, extension_in, list_in}
use Rattle.gltf_root.specs.Named.{with_member}
use Rattle.gltf_root.specs.Pushed.{with_list}
use Rattle.gltf_root.specs.RootExtension.{root_extension_rows}
use Rattle.gltf_root.specs.Root.{root_rows}
use Rattle.gltf_root.specs.declared.root.mark.Mark.{Mark}
use Rattle.gltf_root.specs.declared.root.mark.Mark.TheVariants.{Listed, NoObject, NoExtensions}

-- what a document has of the extension object of a name
abbrev pub extension_mark : List ℕ → Tree → Mark
extension_mark name root =
    if is_absent (extensions_in root) then NoExtensions else
    if is_absent (extension_in name root) then NoObject else Listed

-- what a document has for a list: all that it takes, but where its extension object is missing
abbrev pub mark_in : ListName → Tree → Mark
mark_in ListName.lights root = extension_mark lights_name root
mark_in ListName.variants root = extension_mark variants_name root
mark_in named root = Listed

-- trees but the last one
abbrev pub without_last : Trees → Trees
without_last end = end
without_last (with_tree t end) = end
without_last (with_tree t (with_tree u ts)) = with_tree t (without_last (with_tree u ts))

-- a document without the last item of a list; all else is as it was
abbrev pub without_last_item : ListName → Tree → Tree
without_last_item named root = with_list named (without_last (list_in named root)) root

-- a document without the extension object of a name
abbrev pub without_extension : List ℕ → Tree → Tree
without_extension name root =
    with_member extensions_name root_rows (with_member name root_extension_rows absent (extensions_in root)) root

-- a document without any extensions
abbrev pub without_extensions : Tree → Tree
without_extensions root = with_member extensions_name root_rows absent root

-- a document of which a push onto a list is taken back, by the mark of the document before the
-- push. The last item is gone, and so is what was made to hold it
abbrev pub undone : ListName → Mark → Tree → Tree
undone ListName.lights NoObject root = without_extension lights_name root
undone ListName.lights NoExtensions root = without_extensions root
undone ListName.variants NoObject root = without_extension variants_name root
undone ListName.variants NoExtensions root = without_extensions root
undone named mark root = without_last_item named root
