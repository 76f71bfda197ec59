-- Animations (glTF 2.0, sections 3.11 and 5.5 to 5.8).
use Rattle.std.specs.Prelude.{ℕ, ◌+◌, ◌*◌, ◌==◌, List, [], ◌∷◌, ◌++◌, Bool, true, false, not, ◌&&◌, nat_lt, is_some, length, slice_get, Option, Some, None}
use Rattle.gltf_base.specs.declared.validation.Checked.{Checked}
use Rattle.gltf_base.specs.declared.validation.Checked.TheVariants.{Valid, Invalid}
use Rattle.gltf_base.specs.declared.animation.Interpolation.{Interpolation as Between}
use Rattle.gltf_base.specs.declared.animation.Interpolation.TheVariants.{CubicSpline}
use Rattle.gltf_base.specs.declared.animation.Property.{Property}
use Rattle.gltf_base.specs.declared.animation.Property.TheVariants as property
use Rattle.gltf_base.specs.Indexes.{index_number}
use Rattle.gltf_parts.specs.declared.buffer.View.{View}
use Rattle.gltf_parts.specs.declared.accessor.Accessor.{Accessor}
use Rattle.gltf_scene.specs.declared.scene.Node.{Node}
use Rattle.gltf_scene.specs.declared.animation.Animation.{Animation}
use Rattle.gltf_scene.specs.declared.animation.Sampler.{Sampler}
use Rattle.gltf_scene.specs.declared.animation.Channel.{Channel}
use Rattle.gltf_scene.specs.declared.animation.Target.{Target}
use Rattle.gltf_scene.specs.declared.mesh.Mesh.{Mesh}
use Rattle.gltf_base.specs.declared.index.IndexTo.{IndexTo}
use Rattle.std.specs.Ordering.{nat_cmp}
use Rattle.std.specs.BTreeSet.{insert_key}
use Rattle.gltf_findings_codes.specs.Repeats.{is_among}
use Rattle.gltf_findings_rules.specs.Meshes.{targets_of_mesh}
use Rattle.gltf_findings_codes.specs.declared.code.Code.TheVariants.{UnresolvedReference, ValueNotInList, AnimationSamplerInputAccessorInvalidFormat, AnimationSamplerInputAccessorWithoutBounds, AnimationSamplerInputAccessorTooFewElements, AnimationSamplerAccessorWithBytestride, AnimationChannelTargetNodeMatrix, AnimationChannelTargetNodeSkin, AnimationSamplerOutputAccessorInvalidFormat, AnimationSamplerOutputAccessorInvalidCount, AnimationChannelTargetNodeWeightsNoMorphs, AnimationDuplicateTargets}
use Rattle.gltf_findings_codes.specs.declared.name.Name.TheVariants as name
use Rattle.gltf_findings_codes.specs.declared.finding.Object.{Object as Of}
use Rattle.gltf_findings_codes.specs.declared.finding.Object.TheVariants.{Nested, NestedPart}
use Rattle.gltf_findings_codes.specs.declared.finding.Subject.TheVariants.{Object, Member}
use Rattle.gltf_findings_codes.specs.declared.finding.Finding.{Finding}
use Rattle.gltf_findings_codes.specs.declared.formats.AllowedFormat.{AllowedFormat}
use Rattle.gltf_findings_codes.specs.declared.formats.AllowedFormat.TheVariants.{Times, Vectors, Rotations, Weights}
use Rattle.gltf_findings_codes.specs.Found.{broken, found, findings_from}
use Rattle.gltf_findings_codes.specs.Rules.{is_invalid, is_unresolved}
use Rattle.gltf_findings_codes.specs.Formats.{accessor_of, excludes_named, has_bounds, is_accessor_strided}

abbrev pub sampler_at : ℕ → ℕ → Of
sampler_at n k = Nested name.Animations n name.Samplers k

abbrev pub channel_at : ℕ → ℕ → Of
channel_at n k = Nested name.Animations n name.Channels k

abbrev pub target_at : ℕ → ℕ → Of
target_at n k = NestedPart name.Animations n name.Channels k name.Target

abbrev pub is_spline : Checked Between → Bool
is_spline (Valid CubicSpline) = true
is_spline _ = false

abbrev pub lacks_bounds : Option Accessor → Bool
lacks_bounds None = false
lacks_bounds (Some a) = not (has_bounds a)

-- section 5.8.1: "The accessor" .. of times "MUST have its min and max properties defined"
abbrev pub has_no_bounds : List Accessor → Sampler → Bool
has_no_bounds accessors s = lacks_bounds (accessor_of accessors (Some s.input))

abbrev pub is_short_spline : Checked Between → Option Accessor → Bool
is_short_spline i None = false
is_short_spline i (Some a) = is_spline i && nat_lt a.count.0 2

-- section 3.11: a spline has at least two keyframes
abbrev pub has_few_times : List Accessor → Sampler → Bool
has_few_times accessors s = is_short_spline s.interpolation (accessor_of accessors (Some s.input))

-- a sampler of the animation with a number
abbrev pub sampler_rules : List Accessor → ℕ → ℕ → Sampler → List (Option Finding)
sampler_rules accessors n k s =
    broken (is_unresolved (length accessors) s.input) UnresolvedReference (Member (sampler_at n k) name.Input)
    ∷ broken (is_unresolved (length accessors) s.output) UnresolvedReference (Member (sampler_at n k) name.Output)
    ∷ broken (is_invalid s.interpolation) ValueNotInList (Member (sampler_at n k) name.Interpolation)
    ∷ broken (excludes_named Times accessors (Some s.input)) AnimationSamplerInputAccessorInvalidFormat (Member (sampler_at n k) name.Input)
    ∷ broken (has_no_bounds accessors s) AnimationSamplerInputAccessorWithoutBounds (Member (sampler_at n k) name.Input)
    ∷ broken (has_few_times accessors s) AnimationSamplerInputAccessorTooFewElements (Member (sampler_at n k) name.Input)
    ∷ []

-- section 5.11.4: only views of vertex attributes have a stride
abbrev pub stride_rules : List View → List Accessor → ℕ → ℕ → Sampler → List (Option Finding)
stride_rules views accessors n k s =
    broken (is_accessor_strided views accessors (Some s.input)) AnimationSamplerAccessorWithBytestride (Member (sampler_at n k) name.Input)
    ∷ broken (is_accessor_strided views accessors (Some s.output)) AnimationSamplerAccessorWithBytestride (Member (sampler_at n k) name.Output)
    ∷ []

abbrev pub sampler_findings : List View → List Accessor → ℕ → ℕ → Sampler → List Finding
sampler_findings views accessors n k s = found (stride_rules views accessors n k s) ++ found (sampler_rules accessors n k s)

-- a translation, a rotation or a scale
abbrev pub transforms : Checked Property → Bool
transforms (Valid property.Translation) = true
transforms (Valid property.Rotation) = true
transforms (Valid property.Scale) = true
transforms _ = false

abbrev pub has_matrix : Option Node → Bool
has_matrix None = false
has_matrix (Some x) = is_some x.matrix

abbrev pub has_skin : Option Node → Bool
has_skin None = false
has_skin (Some x) = is_some x.skin

-- section 3.11: what the values of a property are
abbrev pub output_format : Property → AllowedFormat
output_format property.Translation = Vectors
output_format property.Scale = Vectors
output_format property.Rotation = Rotations
output_format property.MorphTargetWeights = Weights

abbrev pub excludes_values : List Accessor → Option Sampler → Checked Property → Bool
excludes_values accessors (Some s) (Valid p) = excludes_named (output_format p) accessors (Some s.output)
excludes_values accessors _ _ = false

-- the values of the sampler of a channel have a format that the property excludes
abbrev pub excludes_output : List Sampler → List Accessor → Channel → Bool
excludes_output samplers accessors c = excludes_values accessors (slice_get samplers (index_number c.sampler)) c.target.path

-- a channel of the animation with a number
abbrev pub channel_rules : List Sampler → List Accessor → List Node → ℕ → ℕ → Channel → List (Option Finding)
channel_rules samplers accessors nodes n k c =
    broken (is_unresolved (length samplers) c.sampler) UnresolvedReference (Member (channel_at n k) name.Sampler)
    ∷ broken (is_unresolved (length nodes) c.target.node) UnresolvedReference (Member (target_at n k) name.Node)
    ∷ broken (is_invalid c.target.path) ValueNotInList (Member (target_at n k) name.Path)
    -- section 3.5.3: a node that is animated has no matrix
    ∷ broken (transforms c.target.path && has_matrix (slice_get nodes (index_number c.target.node))) AnimationChannelTargetNodeMatrix (Member (target_at n k) name.Path)
    -- section 3.7.3.3: transforms of a node with a skin have no effect
    ∷ broken (transforms c.target.path && has_skin (slice_get nodes (index_number c.target.node))) AnimationChannelTargetNodeSkin (Member (target_at n k) name.Path)
    ∷ broken (excludes_output samplers accessors c) AnimationSamplerOutputAccessorInvalidFormat (Member (channel_at n k) name.Sampler)
    ∷ []

abbrev pub animates_weights : Checked Property → Bool
animates_weights (Valid property.MorphTargetWeights) = true
animates_weights _ = false

abbrev pub is_zero : Option ℕ → Bool
is_zero None = false
is_zero (Some n) = n == 0

abbrev pub morphs_of_mesh : Option Mesh → Option ℕ
morphs_of_mesh None = None
morphs_of_mesh (Some m) = Some (targets_of_mesh m.primitives.items)

abbrev pub morphs_of_index : {P : Type 0} → List Mesh → Option (IndexTo P) → Option ℕ
morphs_of_index meshes None = Some 0
morphs_of_index meshes (Some i) = morphs_of_mesh (slice_get meshes (index_number i))

-- how many morph targets a node has, if its mesh is known
abbrev pub morphs_of : List Mesh → Option Node → Option ℕ
morphs_of meshes None = None
morphs_of meshes (Some x) = morphs_of_index meshes x.mesh

-- section 3.11: a value of weights has one for each morph target
abbrev pub width_of : Checked Property → Option ℕ → Option ℕ
width_of (Valid property.MorphTargetWeights) morphs = morphs
width_of (Valid _) morphs = Some 1
width_of Invalid morphs = None

-- section 3.11: a spline has three values for each time, other samplers have one
abbrev pub differs : ℕ → Bool → ℕ → ℕ → Bool
differs times true width values = not (width == 0) && not (values == times * (width * 3))
differs times false width values = not (width == 0) && not (values == times * width)

abbrev pub differ_in : Option Accessor → Option Accessor → Bool → ℕ → Bool
differ_in (Some input) (Some output) is_spline width = differs input.count.0 is_spline width output.count.0
differ_in _ _ is_spline width = false

abbrev pub has_other_count : List Accessor → Option Sampler → Option ℕ → Bool
has_other_count accessors (Some s) (Some width) = differ_in (accessor_of accessors (Some s.input)) (accessor_of accessors (Some s.output)) (is_spline s.interpolation) width
has_other_count accessors _ _ = false

abbrev pub morph_rules : List Sampler → List Accessor → List Node → List Mesh → ℕ → ℕ → Channel → List (Option Finding)
morph_rules samplers accessors nodes meshes n k c =
    broken (animates_weights c.target.path && is_zero (morphs_of meshes (slice_get nodes (index_number c.target.node)))) AnimationChannelTargetNodeWeightsNoMorphs (Member (target_at n k) name.Path)
    ∷ broken (has_other_count accessors (slice_get samplers (index_number c.sampler)) (width_of c.target.path (morphs_of meshes (slice_get nodes (index_number c.target.node))))) AnimationSamplerOutputAccessorInvalidCount (Member (channel_at n k) name.Sampler)
    ∷ []

abbrev pub channel_findings : List Sampler → List Accessor → List Node → List Mesh → ℕ → ℕ → Channel → List Finding
channel_findings samplers accessors nodes meshes n k c = found (channel_rules samplers accessors nodes n k c) ++ found (morph_rules samplers accessors nodes meshes n k c)

abbrev pub property_number : Checked Property → ℕ → Option ℕ
property_number (Valid property.Translation) n = Some (4 * n)
property_number (Valid property.Rotation) n = Some (4 * n + 1)
property_number (Valid property.Scale) n = Some (4 * n + 2)
property_number (Valid property.MorphTargetWeights) n = Some (4 * n + 3)
property_number Invalid n = None

-- a number for each property of each node
abbrev pub target_number : Target → Option ℕ
target_number t = property_number t.path (index_number t.node)

abbrev pub target_finding : ℕ → List ℕ → ℕ → Option ℕ → List Finding
target_finding n before k None = []
target_finding n before k (Some t) = found (broken (is_among before t) AnimationDuplicateTargets (Object (target_at n k)) ∷ [])

abbrev pub and_before : List ℕ → Option ℕ → List ℕ
and_before before None = before
and_before before (Some t) = insert_key nat_cmp before t

-- section 3.11: "an animation MUST NOT have two channels with the same target"; of the channels from a place on each whose target is one of those before
abbrev pub target_findings : ℕ → List ℕ → ℕ → List Channel → List Finding
target_findings n before k [] = []
target_findings n before k (c ∷ cs) =
    target_finding n before k (target_number c.target)
    ++ target_findings n (and_before before (target_number c.target)) (k + 1) cs

abbrev pub animation_findings : List View → List Accessor → List Node → List Mesh → ℕ → Animation → List Finding
animation_findings views accessors nodes meshes n a =
    findings_from (sampler_findings views accessors n) 0 a.samplers.items
    ++ findings_from (channel_findings a.samplers.items accessors nodes meshes n) 0 a.channels.items
    ++ target_findings n [] 0 a.channels.items
