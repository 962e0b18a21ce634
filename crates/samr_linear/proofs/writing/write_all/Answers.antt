use Rattle.std.proofs.Common.{◌≡◌, ◌∙◌, refl, sym, subst, slice_index_or}
use Rattle.std.proofs.lemmas.List.{take_all}
use Rattle.std.specs.Prelude.{true, List}
use Rattle.samr_box.specs.Corners.{Corners, holds_box}
use Rattle.samr_data.specs.declared.parcel.Parcel.{Parcel}
use Rattle.samr_fill.specs.Writing.{Fixes}
use Rattle.samr_linear.specs.LinearWriting.{takes, taken, any_takes, IsFit}
use Rattle.samr_fill.proofs.Fixing.{fixes_over, fixes_more}
use Rattle.samr_fill.proofs.Numbered.{at_member}
use Rattle.samr_linear.proofs.writing.write_all.Goals as goal

pub write_parcel-requires-clause-into : goal.write_parcel-requires-clause-into
write_parcel-requires-clause-into g c = λ k d more.
    subst (λ (b : Corners). holds_box b (slice_index_or c.args.rest.now k d) ≡ true) (sym c.loop-parcel.invariant.0) (c.requires.into k d more)

pub write_parcel-requires-clause-fit : goal.write_parcel-requires-clause-fit
write_parcel-requires-clause-fit g c =
    let item = c.parcel-item.result in
    subst (λ (b : Corners). IsFit c.args.plan.now.frame c.args.stencil.now b item) (sym c.loop-parcel.invariant.0)
    (c.requires.fit item (at_member c.args.parcels.now c.loop-parcel.parcel-index item c.loop-parcel-test.true c.parcel-item.is))

pub loop-parcel-preserved : goal.loop-parcel-preserved
loop-parcel-preserved g c =
    let item = c.parcel-item.result in
    let plan = c.args.plan.now in
    let rest = c.args.rest.now in
    let member = at_member c.args.parcels.now c.loop-parcel.parcel-index item c.loop-parcel-test.true c.parcel-item.is in
    let v = taken plan c.args.stencil.now item in (
      fixes_over v (takes plan c.args.stencil.now.real rest item) c.loop-parcel.patch c.write_parcel.new.patch (c.in_ok-write_parcel.ensures v (λ x u. refl)) ∙ c.loop-parcel.invariant.0,
      λ v each.
          fixes_more v (λ x p. takes plan c.args.stencil.now.real rest p x) c.args.parcels.now c.loop-parcel.parcel-index item c.loop-parcel-test.true c.parcel-item.is
          c.args.patch.now c.loop-parcel.patch c.write_parcel.new.patch (c.loop-parcel.invariant.1 v each) (c.in_ok-write_parcel.ensures v (each item member)),
    )

pub returns : goal.returns
returns g c = λ v each.
    subst (λ (l : List Parcel). Fixes v (any_takes c.args.plan.now c.args.stencil.now.real c.args.rest.now l) c.args.patch.now c.loop-parcel.patch)
    (take_all c.loop-parcel.parcel-index c.args.parcels.now c.loop-parcel-test.false) (c.loop-parcel.invariant.1 v each)
