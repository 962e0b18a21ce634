use Rattle.std.proofs.Common.{◌≡◌, ◌∙◌, sym, ap, refl}
use Rattle.std.specs.Prelude.{true}
use Rattle.samr_box.specs.Vector.{at_most}
use Rattle.samr_box.specs.Corners.{Corners, common, met}
use Rattle.samr_tags.proofs.Regions.{common_box, made, met_both}
use Rattle.samr_tags.proofs.region.between.Goals as goal

pub returns : goal.returns
returns c =
    let b = c.args.b in
    let r : Corners = record { lo = c.args.lo; hi = c.args.hi } in
    let inside : Corners = record { lo = c.b.inside.lo; hi = c.b.inside.hi } in
    let first : at_most inside.lo r.hi ≡ true = sym c.if-not-at_most.ensures.value in
    let second : at_most r.lo inside.hi ≡ true = sym c.if-not-at_most-2.ensures.value in
    let whole = common_box inside r c.b.invariant c.requires (c.if-not-at_most.ensures.means.0 refl) (c.if-not-at_most-2.ensures.means.0 refl) in
    let corners : common inside r ≡ record { lo = c.greatest.result; hi = c.least.result } = rw (c.greatest.ensures, c.least.ensures) refl in
    made (common inside r) c.new.result whole (rw corners c.new.ensures.some) (rw corners c.new.ensures.value)
    ∙ sym (met_both inside r first second)
    ∙ ap (λ (v : Corners). met v r) c.b.view_is
