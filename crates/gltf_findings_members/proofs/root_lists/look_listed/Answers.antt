-- A list by its name.
use Rattle.std.proofs.Common.{◌≡◌, Some, refl, sym, ◌∙◌}
use Rattle.std.specs.Prelude.{codes}
use Rattle.gltf_findings_members.specs.Rows.{row_named}
use Rattle.gltf_findings_members.proofs.Listing.{all_have, full_animations, full_buffers, full_skins, quiet_named}
use Rattle.gltf_findings_members.proofs.root_lists.look_listed.Goals as goal

pub returns-in_ok-quiet-in-animations : goal.returns-in_ok-quiet-in-animations
returns-in_ok-quiet-in-animations c =
    let n = c.args.name.now in
    let m = c.in_ok-quiet-in-animations.ensures in
    let j = m.2 in
    let row : row_named n c.args.rows.now ≡ Some m.0 = sym c.requires ∙ m.1 in (
      j.0,
      j.1,
      λ yes.
          let quiet = j.2 yes in
          (quiet_named c.args.table.now c.args.rows.now n (codes "animations") m.0 j.0 c.in-animations.is refl refl row quiet.0, full_animations n j.0 c.in-animations.is (all_have (codes "channels") _ j.0 quiet.1 (λ i js have. (have.0.0, have.1))) (all_have (codes "samplers") _ j.0 quiet.1 (λ i js have. (have.0.1.0, have.1)))),
    )

pub returns-in_ok-quiet-in-buffers : goal.returns-in_ok-quiet-in-buffers
returns-in_ok-quiet-in-buffers c =
    let n = c.args.name.now in
    let m = c.in_ok-quiet-in-buffers.ensures in
    let j = m.2 in
    let row : row_named n c.args.rows.now ≡ Some m.0 = sym c.requires ∙ m.1 in (
      j.0,
      j.1,
      λ yes.
          let quiet = j.2 yes in
          (quiet_named c.args.table.now c.args.rows.now n (codes "buffers") m.0 j.0 c.in-buffers.is refl refl row quiet.0, full_buffers n j.0 c.in-buffers.is (all_have (codes "byteLength") _ j.0 quiet.1 (λ i js have. (have.0.0, have.1)))),
    )

pub returns-in_ok-quiet-in-skins : goal.returns-in_ok-quiet-in-skins
returns-in_ok-quiet-in-skins c =
    let n = c.args.name.now in
    let m = c.in_ok-quiet-in-skins.ensures in
    let j = m.2 in
    let row : row_named n c.args.rows.now ≡ Some m.0 = sym c.requires ∙ m.1 in (
      j.0,
      j.1,
      λ yes.
          let quiet = j.2 yes in
          (quiet_named c.args.table.now c.args.rows.now n (codes "skins") m.0 j.0 c.in-skins.is refl refl row quiet.0, full_skins n j.0 c.in-skins.is (all_have (codes "joints") _ j.0 quiet.1 (λ i js have. (have.0.0, have.1)))),
    )
