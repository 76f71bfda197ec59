-- Laws about all findings of a document.
use Rattle.std.proofs.Common.{◌≡◌, ℕ, ◌+◌, ◌<◌, ◌^◌, List, ◌++◌, length, map, Bool, true, Some, sym, subst}
use Rattle.std.proofs.lemmas.List.{length-map}
use Rattle.std.specs.Prelude.{slice_get}
use Rattle.gltf_parts.specs.declared.accessor.Accessor.{Accessor}
use Rattle.gltf_root.specs.declared.root.Root.{Root}
use Rattle.gltf_scene.specs.declared.scene.Node.{Node}
use Rattle.gltf_hierarchy.specs.Forest.{IsForest}
use Rattle.gltf_load.specs.Named.{children_named, numbers_in}
use Rattle.gltf_findings_codes.specs.declared.code.Code.{Code}
use Rattle.gltf_findings_codes.specs.declared.finding.Finding.{Finding}
use Rattle.gltf_findings_codes.specs.Found.{found, findings_from}
use Rattle.gltf_findings_codes.specs.Without.{are_without}
use Rattle.gltf_findings_codes.proofs.Without.{without_append, without_from}
use Rattle.gltf_findings_rules.specs.declared.nodes.NodeRules.{NodeRules as Counts}
use Rattle.gltf_findings_rules.specs.Nodes.{node_rules, node_findings, child_findings, child_repeat_findings, rotation_findings, scene_findings}
use Rattle.gltf_findings_rules.specs.Placed.{placed_findings as placed_node_findings, child_marks, joint_marks}
use Rattle.gltf_findings_rules.specs.Skins.{skin_findings}
use Rattle.gltf_findings_rules.specs.Accessors.{accessor_findings}
use Rattle.gltf_findings_rules.specs.Views.{buffer_rules, view_findings}
use Rattle.gltf_findings.specs.Findings.{AreFindings, findings_of, document_findings, stored_findings, shown_findings, staged_findings, placed_findings, counts_of, unmarked}
use Rattle.gltf_findings.specs.Uses.{use_findings}
use Rattle.gltf_findings.specs.Absent.{is_of_layout, is_of_hierarchy, LiesInView}
use Rattle.gltf_findings.specs.Hierarchy.{fault_finding}
use Rattle.gltf_findings.specs.Skeletons.{skeleton_findings}
use Rattle.gltf_findings.proofs.Rooted.{AreQuiet, no_faults}
use Rattle.gltf_findings.proofs.Fitting.{lies}

-- the findings of what is stored and of nodes are among all
pub stored_and_placed : (codes : Code → Bool) (r : Root) → are_without codes (findings_of r) ≡ true → (are_without codes (stored_findings r) ≡ true) × (are_without codes (placed_findings r) ≡ true)
stored_and_placed codes r h =
    let first = document_findings r in
    let stored = stored_findings r in
    let shown = shown_findings r in
    let staged = staged_findings r in
    let placed = placed_findings r in
    let a = without_append codes (first ++ stored ++ shown ++ staged ++ placed) (use_findings r) h in
    let b = without_append codes (first ++ stored ++ shown ++ staged) placed a.0 in
    let c = without_append codes (first ++ stored ++ shown) staged b.0 in
    let d = without_append codes (first ++ stored) shown c.0 in
    ((without_append codes first stored d.0).1, b.1)

-- the findings of children are among those of a node
node_parts : (counts : Counts) (n : ℕ) (x : Node) → are_without is_of_hierarchy (node_findings counts n x) ≡ true → (are_without is_of_hierarchy (child_findings counts.nodes n x.children) ≡ true) × (are_without is_of_hierarchy (child_repeat_findings n x.children) ≡ true)
node_parts counts n x h =
    let rules = found (node_rules counts n x) in
    let children = child_findings counts.nodes n x.children in
    let repeats = child_repeat_findings n x.children in
    let a = without_append is_of_hierarchy (rules ++ children ++ repeats) (rotation_findings n x.rotation) h in
    let b = without_append is_of_hierarchy (rules ++ children) repeats a.0 in
    ((without_append is_of_hierarchy rules children b.0).1, b.1)

-- what is found of the document and of its hierarchy is among all
all_parts : (codes : Code → Bool) (r : Root) (all : List Finding) (is : AreFindings r all) → are_without codes all ≡ true → (are_without codes (findings_of r) ≡ true) × (are_without codes (found is.hierarchy) ≡ true)
all_parts codes r all is h =
    let skins = findings_from (skeleton_findings is.apart is.astray) 0 r.skins.items in
    let whole : are_without codes (findings_of r ++ found is.hierarchy ++ skins) ≡ true = subst (λ xs. are_without codes xs ≡ true) is.each h in
    without_append codes (findings_of r) (found is.hierarchy) (without_append codes (findings_of r ++ found is.hierarchy) skins whole).0

pub lies_in_view : (r : Root) (all : List Finding) (n : ℕ) (a : Accessor) → AreFindings r all → are_without is_of_layout all ≡ true → slice_get r.accessors.items n ≡ Some a → LiesInView r a
lies_in_view r all n a is h at =
    let listed = (all_parts is_of_layout r all is h).0 in
    let stored = (stored_and_placed is_of_layout r listed).0 in
    let of_accessors = findings_from (accessor_findings r.buffer_views.items) 0 r.accessors.items in
    let of_buffers = findings_from (λ k x. found (buffer_rules k x)) 0 r.buffers.items in
    let of_views = findings_from (view_findings r.buffers.items) 0 r.buffer_views.items in
    let last = without_append is_of_layout (of_accessors ++ of_buffers) of_views stored in
    let views = last.1 in
    let parts = without_append is_of_layout of_accessors of_buffers last.0 in
    lies r.buffers.items r.buffer_views.items r.accessors.items (0 + n) a (without_from is_of_layout (accessor_findings r.buffer_views.items) 0 r.accessors.items n a parts.0 at) (λ m v there. (0 + m, without_from is_of_layout (view_findings r.buffers.items) 0 r.buffer_views.items m v views there))

quiet : (r : Root) → are_without is_of_hierarchy (placed_findings r) ≡ true → AreQuiet r.nodes.items
quiet r h =
    let children = child_marks r.nodes.items (unmarked r) in
    let joints = joint_marks r.skins.items (unmarked r) in
    let counts = counts_of r in
    let of_nodes = findings_from (node_findings counts) 0 r.nodes.items in
    let of_placed = findings_from (placed_node_findings r.meshes.items children joints) 0 r.nodes.items in
    let of_scenes = findings_from (scene_findings (length r.nodes.items) children) 0 r.scenes.items in
    let of_skins = findings_from (skin_findings (length r.nodes.items) r.buffer_views.items r.accessors.items) 0 r.skins.items in
    let a = without_append is_of_hierarchy (of_nodes ++ of_placed ++ of_scenes) of_skins h in
    let b = without_append is_of_hierarchy (of_nodes ++ of_placed) of_scenes a.0 in
    let nodes = (without_append is_of_hierarchy of_nodes of_placed b.0).0 in
    record {
      resolved = λ m x at. (0 + m, (node_parts counts (0 + m) x (without_from is_of_hierarchy (node_findings counts) 0 r.nodes.items m x nodes at)).0);
      unrepeated = λ m x at. (0 + m, (node_parts counts (0 + m) x (without_from is_of_hierarchy (node_findings counts) 0 r.nodes.items m x nodes at)).1);
    }

pub are_trees : (r : Root) (all : List Finding) → AreFindings r all → length r.nodes.items < 2 ^ 32 → are_without is_of_hierarchy all ≡ true → IsForest (children_named r.nodes.items)
are_trees r all is few h =
    let parts = all_parts is_of_hierarchy r all is h in
    let len = length-map r.nodes.items (λ n. numbers_in n.children) in
    let small : length (children_named r.nodes.items) < 2 ^ 32 = subst (λ n. n < 2 ^ 32) (sym len) few in
    let listed : are_without is_of_hierarchy (found (map fault_finding is.are_of.faults)) ≡ true = subst (λ xs. are_without is_of_hierarchy (found xs) ≡ true) is.are_of.each parts.1 in
    let none = no_faults r.nodes.items is.are_of.faults (quiet r (stored_and_placed is_of_hierarchy r parts.0).1) len (is.are_of.all small) listed in
    (is.are_of.none small).0 none
