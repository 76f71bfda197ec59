-- The codes of findings, as the Khronos glTF-Validator has them.
use Rattle.std.specs.Prelude.{ℕ, List, codes}
use Prim.Native.String.{String}
use Rattle.gltf_findings_codes.specs.declared.code.Severity.{Severity}
use Rattle.gltf_findings_codes.specs.declared.code.Severity.TheVariants.{Error, Warning, Information, Hint}
use Rattle.gltf_findings_codes.specs.declared.code.Code.{Code}
use Rattle.gltf_findings_codes.specs.declared.code.Code.TheVariants as code

abbrev pub severity_name : Severity → List ℕ
severity_name Error = codes "error"
severity_name Warning = codes "warning"
severity_name Information = codes "information"
severity_name Hint = codes "hint"

-- what is said of a code: its name; how severe a finding is; the section of glTF 2.0 that has the rule, where 5 stands for
-- that of the object, or the extension that has it; and what is wrong, in words
pub record Entry : Type 0 where
  pub name : List ℕ
  pub severity : Severity
  pub section : List ℕ
  pub message : List ℕ

abbrev pub entry : String → Severity → String → String → Entry
entry name severity section message = record { name = codes name; severity = severity; section = codes section; message = codes message }

abbrev pub code_entry : Code → Entry
code_entry code.EmptyEntity = entry "EMPTY_ENTITY" Error "5" "a list or an object that must not be empty is empty"
code_entry code.OneOfMismatch = entry "ONE_OF_MISMATCH" Error "5" "exactly one of two members must be defined"
code_entry code.UndefinedProperty = entry "UNDEFINED_PROPERTY" Error "5" "a required member is missing"
code_entry code.UnsatisfiedDependency = entry "UNSATISFIED_DEPENDENCY" Error "5" "a member is defined without one that it depends on"
code_entry code.ValueMultipleOf = entry "VALUE_MULTIPLE_OF" Error "5.11.4" "a number is not a multiple of 4"
code_entry code.ValueNotInList = entry "VALUE_NOT_IN_LIST" Warning "5" "a value is none of those that are listed"
code_entry code.ValueNotInRange = entry "VALUE_NOT_IN_RANGE" Error "5" "a number is out of its range"
code_entry code.AccessorMatrixAlignment = entry "ACCESSOR_MATRIX_ALIGNMENT" Error "3.6.2.4" "a matrix is not aligned to 4 bytes"
code_entry code.AccessorNormalizedInvalid = entry "ACCESSOR_NORMALIZED_INVALID" Error "5.1.4" "only components of 8 or 16 bits can be normalized"
code_entry code.AccessorOffsetAlignment = entry "ACCESSOR_OFFSET_ALIGNMENT" Error "3.6.2.4" "the offset is not a multiple of the size of a component"
code_entry code.AccessorSparseCountOutOfRange = entry "ACCESSOR_SPARSE_COUNT_OUT_OF_RANGE" Error "3.6.2.3" "more elements deviate than there are"
code_entry code.BufferViewInvalidByteStride = entry "BUFFER_VIEW_INVALID_BYTE_STRIDE" Error "5.11.4" "a buffer view of indices has a stride"
code_entry code.BufferViewTooBigByteStride = entry "BUFFER_VIEW_TOO_BIG_BYTE_STRIDE" Error "5.11.4" "the stride is greater than the buffer view"
code_entry code.CameraXmagYmagNegative = entry "CAMERA_XMAG_YMAG_NEGATIVE" Warning "5.13" "a magnification is negative"
code_entry code.CameraXmagYmagZero = entry "CAMERA_XMAG_YMAG_ZERO" Error "5.13" "a magnification is zero"
code_entry code.CameraYfovGequalPi = entry "CAMERA_YFOV_GEQUAL_PI" Warning "5.14.2" "the field of view is not less than a half turn"
code_entry code.CameraZfarLequalZnear = entry "CAMERA_ZFAR_LEQUAL_ZNEAR" Error "5.12" "the far plane is not behind the near plane"
code_entry code.KhrLightsPunctualLightSpotAngles = entry "KHR_LIGHTS_PUNCTUAL_LIGHT_SPOT_ANGLES" Error "KHR_lights_punctual" "the outer angle is not greater than the inner angle"
code_entry code.KhrMaterialsVolumeDoubleSided = entry "KHR_MATERIALS_VOLUME_DOUBLE_SIDED" Warning "KHR_materials_volume" "a volume has a double-sided material"
code_entry code.KhrMaterialsVolumeNoTransmission = entry "KHR_MATERIALS_VOLUME_NO_TRANSMISSION" Warning "KHR_materials_volume" "a volume lets no light through"
code_entry code.MaterialAlphaCutoffInvalidMode = entry "MATERIAL_ALPHA_CUTOFF_INVALID_MODE" Warning "5.19.10" "an alpha cutoff has an effect in the mode MASK alone"
code_entry code.MeshInvalidWeightsCount = entry "MESH_INVALID_WEIGHTS_COUNT" Error "5.23.2" "the number of weights is not that of the morph targets"
code_entry code.MeshPrimitivesUnequalTargetsCount = entry "MESH_PRIMITIVES_UNEQUAL_TARGETS_COUNT" Error "3.7.2.2" "the primitives of a mesh have different numbers of morph targets"
code_entry code.NodeMatrixTrs = entry "NODE_MATRIX_TRS" Error "3.5.3" "the node has a matrix and another transform"
code_entry code.AccessorSmallBytestride = entry "ACCESSOR_SMALL_BYTESTRIDE" Error "3.6.2.4" "the stride of the buffer view is less than an element"
code_entry code.AccessorTooLong = entry "ACCESSOR_TOO_LONG" Error "3.6.2.4" "the accessor ends behind its buffer view"
code_entry code.AccessorTotalOffsetAlignment = entry "ACCESSOR_TOTAL_OFFSET_ALIGNMENT" Error "3.6.2.4" "the offset in the buffer is not a multiple of the size of a component"
code_entry code.AnimationChannelTargetNodeMatrix = entry "ANIMATION_CHANNEL_TARGET_NODE_MATRIX" Error "3.11" "a channel animates a transform of a node that has a matrix"
code_entry code.AnimationChannelTargetNodeSkin = entry "ANIMATION_CHANNEL_TARGET_NODE_SKIN" Warning "3.7.3.3" "a channel animates a transform of a node that has a skin"
code_entry code.AnimationSamplerAccessorWithBytestride = entry "ANIMATION_SAMPLER_ACCESSOR_WITH_BYTESTRIDE" Error "5.11.4" "the buffer view of times or values has a stride"
code_entry code.AnimationSamplerInputAccessorInvalidFormat = entry "ANIMATION_SAMPLER_INPUT_ACCESSOR_INVALID_FORMAT" Error "5.8.1" "the times are no scalar floats"
code_entry code.AnimationSamplerInputAccessorWithoutBounds = entry "ANIMATION_SAMPLER_INPUT_ACCESSOR_WITHOUT_BOUNDS" Error "5.8.1" "the accessor of the times has no bounds"
code_entry code.AnimationSamplerInputAccessorTooFewElements = entry "ANIMATION_SAMPLER_INPUT_ACCESSOR_TOO_FEW_ELEMENTS" Error "3.11" "a spline has fewer than two times"
code_entry code.AnimationSamplerOutputAccessorInvalidFormat = entry "ANIMATION_SAMPLER_OUTPUT_ACCESSOR_INVALID_FORMAT" Error "3.11" "the values have a format that the animated property excludes"
code_entry code.BufferViewTooLong = entry "BUFFER_VIEW_TOO_LONG" Error "5.11" "the buffer view ends behind its buffer"
code_entry code.ImageBufferViewWithBytestride = entry "IMAGE_BUFFER_VIEW_WITH_BYTESTRIDE" Error "5.11.4" "the buffer view of an image has a stride"
code_entry code.InvalidIbmAccessorCount = entry "INVALID_IBM_ACCESSOR_COUNT" Error "5.28.1" "there are fewer inverse bind matrices than joints"
code_entry code.MeshPrimitiveIndicesAccessorInvalidFormat = entry "MESH_PRIMITIVE_INDICES_ACCESSOR_INVALID_FORMAT" Error "5.24.2" "indices are no scalars of an unsigned type"
code_entry code.MeshPrimitiveIndicesAccessorWithBytestride = entry "MESH_PRIMITIVE_INDICES_ACCESSOR_WITH_BYTESTRIDE" Error "5.11.4" "the buffer view of indices has a stride"
code_entry code.NodeLoop = entry "NODE_LOOP" Error "3.5.2" "the node is below itself"
code_entry code.NodeParentOverride = entry "NODE_PARENT_OVERRIDE" Error "3.5.2" "the node already has a parent"
code_entry code.SkinIbmAccessorWithBytestride = entry "SKIN_IBM_ACCESSOR_WITH_BYTESTRIDE" Error "5.11.4" "the buffer view of inverse bind matrices has a stride"
code_entry code.SkinIbmInvalidFormat = entry "SKIN_IBM_INVALID_FORMAT" Error "5.28.1" "the inverse bind matrices are no 4x4 matrices of floats"
code_entry code.UnresolvedReference = entry "UNRESOLVED_REFERENCE" Error "5" "an index names nothing"
code_entry code.PatternMismatch = entry "PATTERN_MISMATCH" Error "5.9" "a text does not have the form that is required"
code_entry code.UnknownAssetMajorVersion = entry "UNKNOWN_ASSET_MAJOR_VERSION" Error "5.9.3" "the major version is not 2"
code_entry code.UnknownAssetMinorVersion = entry "UNKNOWN_ASSET_MINOR_VERSION" Warning "5.9.3" "the minor version is later than 0"
code_entry code.AssetMinVersionGreaterThanVersion = entry "ASSET_MIN_VERSION_GREATER_THAN_VERSION" Error "5.9.4" "the minimum version is greater than the version"
code_entry code.InvalidExtensionNameFormat = entry "INVALID_EXTENSION_NAME_FORMAT" Warning "3.12" "the name of an extension has no prefix of capital letters"
code_entry code.DuplicateElements = entry "DUPLICATE_ELEMENTS" Error "5" "an element is listed twice"
code_entry code.ArrayLengthNotInList = entry "ARRAY_LENGTH_NOT_IN_LIST" Error "5" "there are not as many numbers as are required"
code_entry code.SceneNonRootNode = entry "SCENE_NON_ROOT_NODE" Error "3.5.1" "a scene lists a node that has a parent"
code_entry code.MeshPrimitiveAttributesAccessorInvalidFormat = entry "MESH_PRIMITIVE_ATTRIBUTES_ACCESSOR_INVALID_FORMAT" Error "3.7.2.1" "an attribute has a format that its semantic excludes"
code_entry code.MeshPrimitiveAttributesAccessorUnsignedInt = entry "MESH_PRIMITIVE_ATTRIBUTES_ACCESSOR_UNSIGNED_INT" Error "3.7.2.1" "an attribute has components of 32-bit integers"
code_entry code.MeshPrimitiveUnequalAccessorCount = entry "MESH_PRIMITIVE_UNEQUAL_ACCESSOR_COUNT" Error "3.7.2.1" "attributes have different numbers of elements"
code_entry code.MeshPrimitiveMorphTargetNoBaseAccessor = entry "MESH_PRIMITIVE_MORPH_TARGET_NO_BASE_ACCESSOR" Error "3.7.2.2" "a morph target has an attribute that the primitive lacks"
code_entry code.MeshPrimitiveMorphTargetInvalidAttributeCount = entry "MESH_PRIMITIVE_MORPH_TARGET_INVALID_ATTRIBUTE_COUNT" Error "3.7.2.2" "a morph target has another number of elements than the attribute"
code_entry code.MeshPrimitiveIndexedSemanticContinuity = entry "MESH_PRIMITIVE_INDEXED_SEMANTIC_CONTINUITY" Error "3.7.2.1" "the numbers of sets are not consecutive from 0 on"
code_entry code.MeshPrimitiveJointsWeightsMismatch = entry "MESH_PRIMITIVE_JOINTS_WEIGHTS_MISMATCH" Error "3.7.3.3" "there are not as many sets of joints as of weights"
code_entry code.MeshPrimitiveNoPosition = entry "MESH_PRIMITIVE_NO_POSITION" Warning "3.7.2.1" "the primitive has no positions"
code_entry code.MeshPrimitivePositionAccessorWithoutBounds = entry "MESH_PRIMITIVE_POSITION_ACCESSOR_WITHOUT_BOUNDS" Error "3.7.2.1" "the accessor of positions has no bounds"
code_entry code.MeshPrimitiveInvalidAttribute = entry "MESH_PRIMITIVE_INVALID_ATTRIBUTE" Error "3.7.2.1" "an attribute has a name without a meaning"
code_entry code.MeshPrimitiveIncompatibleMode = entry "MESH_PRIMITIVE_INCOMPATIBLE_MODE" Warning "3.7.2.1" "the number of vertices does not fit the mode"
code_entry code.MeshPrimitiveTooFewTexcoords = entry "MESH_PRIMITIVE_TOO_FEW_TEXCOORDS" Error "5.20" "a texture needs texture coordinates that the primitive lacks"
code_entry code.MeshPrimitiveGeneratedTangentSpace = entry "MESH_PRIMITIVE_GENERATED_TANGENT_SPACE" Warning "3.7.2.1" "a normal texture needs tangents that the primitive lacks"
code_entry code.MeshPrimitiveTangentWithoutNormal = entry "MESH_PRIMITIVE_TANGENT_WITHOUT_NORMAL" Warning "3.7.2.1" "the primitive has tangents and no normals"
code_entry code.MeshPrimitiveTangentPoints = entry "MESH_PRIMITIVE_TANGENT_POINTS" Warning "3.7.2.1" "points have tangents"
code_entry code.UnusedMeshTangent = entry "UNUSED_MESH_TANGENT" Information "3.7.2.1" "the material does not use the tangents"
code_entry code.MeshPrimitiveAccessorUnaligned = entry "MESH_PRIMITIVE_ACCESSOR_UNALIGNED" Error "3.6.2.4" "vertex attributes are not aligned to 4 bytes"
code_entry code.MeshPrimitivesUnequalJointsCount = entry "MESH_PRIMITIVES_UNEQUAL_JOINTS_COUNT" Warning "3.7.3.3" "the primitives of a mesh have different numbers of sets of joints"
code_entry code.NodeWeightsInvalid = entry "NODE_WEIGHTS_INVALID" Error "5.25" "the number of weights is not that of the morph targets of the mesh"
code_entry code.NodeSkinWithNonSkinnedMesh = entry "NODE_SKIN_WITH_NON_SKINNED_MESH" Error "5.25" "a node has a skin, and its mesh has a primitive without joints"
code_entry code.NodeSkinnedMeshWithoutSkin = entry "NODE_SKINNED_MESH_WITHOUT_SKIN" Warning "3.7.3.3" "a node has no skin, and its mesh has joints"
code_entry code.NodeSkinnedMeshNonRoot = entry "NODE_SKINNED_MESH_NON_ROOT" Warning "3.7.3.3" "a node with a skinned mesh has a parent"
code_entry code.NodeSkinnedMeshLocalTransforms = entry "NODE_SKINNED_MESH_LOCAL_TRANSFORMS" Warning "3.7.3.3" "a node with a skinned mesh has a transform"
code_entry code.NodeEmpty = entry "NODE_EMPTY" Information "5.25" "the node is empty"
code_entry code.NodeMatrixDefault = entry "NODE_MATRIX_DEFAULT" Information "5.25" "the matrix is the identity"
code_entry code.NodeMatrixNonTrs = entry "NODE_MATRIX_NON_TRS" Error "5.25" "the axes of the matrix are not at right angles"
code_entry code.RotationNonUnit = entry "ROTATION_NON_UNIT" Error "5.25" "the rotation is no unit quaternion"
code_entry code.AnimationDuplicateTargets = entry "ANIMATION_DUPLICATE_TARGETS" Error "3.11" "two channels animate the same property of a node"
code_entry code.AnimationSamplerOutputAccessorInvalidCount = entry "ANIMATION_SAMPLER_OUTPUT_ACCESSOR_INVALID_COUNT" Error "3.11" "there are not as many values as the times need"
code_entry code.AnimationChannelTargetNodeWeightsNoMorphs = entry "ANIMATION_CHANNEL_TARGET_NODE_WEIGHTS_NO_MORPHS" Error "3.11" "a channel animates weights of a node without morph targets"
code_entry code.UnusedObject = entry "UNUSED_OBJECT" Information "5" "nothing refers to the object"
code_entry code.UnusedMeshWeights = entry "UNUSED_MESH_WEIGHTS" Information "3.7.2.2" "the weights of the mesh are never used"
code_entry code.AccessorUsageOverride = entry "ACCESSOR_USAGE_OVERRIDE" Error "3.6.2" "the accessor is used in two ways"
code_entry code.BufferViewTargetOverride = entry "BUFFER_VIEW_TARGET_OVERRIDE" Error "5.11.5" "the buffer view is used in two ways"
code_entry code.BufferViewTargetMissing = entry "BUFFER_VIEW_TARGET_MISSING" Hint "5.11.5" "a buffer view of vertices or indices has no target"
code_entry code.MeshPrimitiveAccessorWithoutBytestride = entry "MESH_PRIMITIVE_ACCESSOR_WITHOUT_BYTESTRIDE" Error "5.11.4" "several attributes share a buffer view without a stride"
code_entry code.TextureInvalidImageMimeType = entry "TEXTURE_INVALID_IMAGE_MIME_TYPE" Error "5.18.2" "a texture names an image that is neither PNG nor JPEG"
code_entry code.UnsupportedExtension = entry "UNSUPPORTED_EXTENSION" Information "3.12" "the rules do not know the extension"
code_entry code.NonRequiredExtension = entry "NON_REQUIRED_EXTENSION" Error "3.12" "an extension must be required"
code_entry code.KhrMaterialsEmissiveStrengthZeroFactor = entry "KHR_MATERIALS_EMISSIVE_STRENGTH_ZERO_FACTOR" Warning "KHR_materials_emissive_strength" "the emissive strength has no effect"
code_entry code.GlbUnexpectedEndOfHeader = entry "GLB_UNEXPECTED_END_OF_HEADER" Error "4.4.2" "the file ends within its header"
code_entry code.GlbInvalidMagic = entry "GLB_INVALID_MAGIC" Error "4.4.2" "the file does not begin with glTF"
code_entry code.GlbInvalidVersion = entry "GLB_INVALID_VERSION" Error "4.4.2" "the version of the container is not 2"
code_entry code.GlbLengthTooSmall = entry "GLB_LENGTH_TOO_SMALL" Error "4.4.2" "the length in the header has no room for a chunk"
code_entry code.GlbLengthMismatch = entry "GLB_LENGTH_MISMATCH" Error "4.4.2" "the file is shorter than its header says"
code_entry code.GlbExtraData = entry "GLB_EXTRA_DATA" Warning "4.4.2" "the file is longer than its header says"
code_entry code.GlbUnexpectedEndOfChunkHeader = entry "GLB_UNEXPECTED_END_OF_CHUNK_HEADER" Error "4.4.3" "the file ends within the header of a chunk"
code_entry code.GlbUnexpectedEndOfChunkData = entry "GLB_UNEXPECTED_END_OF_CHUNK_DATA" Error "4.4.3" "the file ends within the data of a chunk"
code_entry code.GlbChunkLengthUnaligned = entry "GLB_CHUNK_LENGTH_UNALIGNED" Error "4.4.3" "the length of a chunk is not a multiple of 4"
code_entry code.GlbChunkTooBig = entry "GLB_CHUNK_TOO_BIG" Error "4.4.3" "a chunk ends behind the length in the header"
code_entry code.GlbUnknownChunkType = entry "GLB_UNKNOWN_CHUNK_TYPE" Warning "4.4.3" "a chunk is neither JSON nor BIN"
code_entry code.GlbDuplicateChunk = entry "GLB_DUPLICATE_CHUNK" Error "4.4.3" "a chunk has the type of an earlier one"
code_entry code.GlbUnexpectedFirstChunk = entry "GLB_UNEXPECTED_FIRST_CHUNK" Error "4.4.3.2" "the first chunk is not JSON"
code_entry code.GlbEmptyChunk = entry "GLB_EMPTY_CHUNK" Error "4.4.3.2" "a JSON chunk is empty"
code_entry code.GlbUnexpectedBinChunk = entry "GLB_UNEXPECTED_BIN_CHUNK" Error "4.4.3.3" "a BIN chunk is not the second chunk"
code_entry code.GlbEmptyBinChunk = entry "GLB_EMPTY_BIN_CHUNK" Information "4.4.3.3" "a BIN chunk is empty"
code_entry code.BufferMissingGlbData = entry "BUFFER_MISSING_GLB_DATA" Error "3.6.1.2" "the buffer has no URI, and the file has no BIN chunk"
code_entry code.BufferGlbChunkTooBig = entry "BUFFER_GLB_CHUNK_TOO_BIG" Warning "4.4.3.3" "the BIN chunk is more than 3 bytes longer than the buffer"
code_entry code.InvalidUri = entry "INVALID_URI" Error "2.8" "the text is not a URI reference"
code_entry code.NonRelativeUri = entry "NON_RELATIVE_URI" Warning "2.8" "the URI is not relative"
code_entry code.UriGlb = entry "URI_GLB" Information "2.8" "the document of a .glb file refers to another file"
code_entry code.DataUriGlb = entry "DATA_URI_GLB" Information "2.8" "the document of a .glb file has a data URI"
code_entry code.BufferDataUriMimeTypeInvalid = entry "BUFFER_DATA_URI_MIME_TYPE_INVALID" Error "3.6.1.1" "the data URI has a media type that is not one of buffers"
code_entry code.SkinNoCommonRoot = entry "SKIN_NO_COMMON_ROOT" Error "3.7.3.2" "the joints have no common root"
code_entry code.SkinSkeletonInvalid = entry "SKIN_SKELETON_INVALID" Error "5.28" "the skeleton is not a common root of the joints"
code_entry code.UnusedExtensionRequired = entry "UNUSED_EXTENSION_REQUIRED" Error "3.12" "an extension is required and not used"
code_entry code.ExtraProperty = entry "EXTRA_PROPERTY" Information "KHR_lights_punctual" "a member is defined that has no effect"
code_entry code.ArrayTypeMismatch = entry "ARRAY_TYPE_MISMATCH" Error "5" "an item is of another kind than is wanted"
code_entry code.InvalidIndex = entry "INVALID_INDEX" Error "5" "an index is no whole number below 2^32"
code_entry code.TypeMismatch = entry "TYPE_MISMATCH" Error "5" "a value is of another kind than is wanted"
code_entry code.UnexpectedProperty = entry "UNEXPECTED_PROPERTY" Warning "5" "the format has no member of this name"
code_entry code.NonObjectExtras = entry "NON_OBJECT_EXTRAS" Information "5.16" "extras are no object"
code_entry code.UndeclaredExtension = entry "UNDECLARED_EXTENSION" Error "3.12" "extensionsUsed does not list the extension"
code_entry code.UnexpectedExtensionObject = entry "UNEXPECTED_EXTENSION_OBJECT" Error "3.12" "the extension has no meaning in this object"

abbrev pub code_name : Code → List ℕ
code_name c = (code_entry c).name

abbrev pub code_severity : Code → Severity
code_severity c = (code_entry c).severity

abbrev pub code_section : Code → List ℕ
code_section c = (code_entry c).section

abbrev pub code_message : Code → List ℕ
code_message c = (code_entry c).message
