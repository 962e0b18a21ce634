use Rattle.std.proofs.Common.{◌∙◌, sym, ap, subst}
use Rattle.samr_box.specs.declared.space.Flags.{Flags}
use Rattle.samr_box.specs.Vector.{times}
use Rattle.samr_box.specs.Corners.{Corners, IsBox}
use Rattle.samr_level.specs.Refs.{Link}
use Rattle.samr_linear.specs.LinearWriting.{inner, IsSource}
use Rattle.samr_linear.proofs.Taking.{source_is, coarse_fixes}
use Rattle.samr_linear.proofs.coarse.write_coarse.Goals as goal

pub inner-under-requires : goal.inner-under-requires
inner-under-requires g c =
    subst (λ (r : Flags). IsBox (inner r c.args.parcel.now.region)) (sym c.requires.real) c.requires.solid

pub write_pieces-requires-clause-source : goal.write_pieces-requires-clause-source
write_pieces-requires-clause-source g c =
    subst (λ (b : Corners). IsSource c.args.stencil.now c.in_ok-source.source b)
    (sym (c.inner-under.ensures ∙ ap (λ (r : Flags). inner r c.args.parcel.now.region) c.requires.real))
    (source_is c.args.stencil.now c.in_ok-source.source c.args.parcel.now.region c.args.parcel.now.values c.in_ok-source.ensures.bx c.in_ok-source.ensures.values c.requires.below)

pub returns : goal.returns
returns g c = λ v each.
    let parcel = c.args.parcel.now in
    let under_is = c.inner-under.ensures ∙ ap (λ (r : Flags). inner r parcel.region) c.requires.real in
    let source = subst (λ (b : Corners). IsSource c.args.stencil.now c.in_ok-source.source b) (sym under_is)
    (source_is c.args.stencil.now c.in_ok-source.source parcel.region parcel.values c.in_ok-source.ensures.bx c.in_ok-source.ensures.values c.requires.below) in
    coarse_fixes c.args.plan.now c.args.stencil.now c.args.rest.now parcel c.in_ok-source.source c.inner-under.result c.offset-offset.result v c.args.patch.now c.write_pieces.new.patch
    c.requires.coarse c.in_ok-source.ensures.bx c.in_ok-source.ensures.values under_is
    (c.offset-offset.ensures.value ∙ ap (λ (e : Link). times e.shift c.args.plan.now.below.size) c.edge.view_is)
    source (c.write_pieces.ensures v) each
