use Rattle.std.proofs.Common.{◌≡◌, length, ◌<◌, refl, subst, arith}
use Rattle.gltf_layout.specs.Places.{HavePlaces}
use Rattle.gltf_layout.proofs.Checked.{pushed, have_places}
use Rattle.gltf_layout.proofs.Truths.{no_accessor_place}
use Rattle.gltf_layout.proofs.layout.Layout.of.Goals as goal

pub returns-in-Err-place_of-clause-only : goal.returns-in-Err-place_of-clause-only
returns-in-Err-place_of-clause-only g c = λ layout.
    let d = g.D.Storage.stored c.args.document.now in
    let small : c.loop-accessor.accessor < length d.accessors = omega arith in
    let found = layout.1 c.loop-accessor.accessor c.accessor.result (omega arith) small c.accessor.ensures in
    no_accessor_place d c.accessor.result c.in-Err-place_of.fault found.0 c.in-Err-place_of.ensures.fault found.1

pub returns-in-Err-place_of-clause-fault : goal.returns-in-Err-place_of-clause-fault
returns-in-Err-place_of-clause-fault g c =
    let d = g.D.Storage.stored c.args.document.now in
    let small : c.loop-accessor.accessor < length d.accessors = omega arith in
    (c.in_default.ensures.none refl, (omega arith, small, have_places d c.loop-accessor.places.items c.loop-accessor.accessor c.loop-accessor.invariant, c.accessor.result, c.accessor.ensures, c.in-Err-place_of.ensures.fault))

pub loop-accessor-preserved : goal.loop-accessor-preserved
loop-accessor-preserved g c = pushed (g.D.Storage.stored c.args.document.now) c.loop-accessor.places.items c.push.new.self.items c.loop-accessor.accessor c.accessor.result c.in-Ok-place_of.place c.in_default-push.ensures.items c.loop-accessor.invariant c.accessor.ensures c.in-Ok-place_of.ensures.place

pub returns-clause-layout : goal.returns-clause-layout
returns-clause-layout g c =
    let d = g.D.Storage.stored c.args.document.now in
    let all : c.loop-accessor.accessor ≡ length d.accessors = omega arith in
    (c.in_default.ensures.none refl, subst (λ n. HavePlaces d 0 n) all (have_places d c.loop-accessor.places.items c.loop-accessor.accessor c.loop-accessor.invariant))
