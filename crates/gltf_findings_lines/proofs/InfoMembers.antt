-- The members of what is said of a document, in order, from how they are put.
use Rattle.std.proofs.Common.{◌≡◌, refl}
use Rattle.serde_json.specs.Data.{object, no_members}
use Rattle.gltf_findings_lines.specs.declared.info.Contents.{Contents}
use Rattle.gltf_findings_lines.specs.Info.{info_data, with_asset, with_contents, with_geometry}

pub members_are : (i : Contents) → object (with_geometry i.geometry (with_contents i (with_asset i no_members))) ≡ info_data i
unfolding info_data
members_are i = refl
