use Rattle.std.proofs.Common.{◌≡◌, ◌∙◌, rules}
use Rattle.std.proofs.lemmas.Bool.{false≢true}
use Rattle.std.specs.Prelude.{false}
use Rattle.samr_box.specs.Corners.{meets}
use Rattle.samr_box.specs.Space.{image}
use Rattle.samr_box.proofs.Ranges.{InRange-lo, FitsVector-plus}
use Rattle.samr_box.proofs.CellSets.{images-means}
use Rattle.samr_box.proofs.borders.images_meet.Goals as goal

pub returns-then-not-at_most-clause-cells : goal.returns-then-not-at_most-clause-cells
returns-then-not-at_most-clause-cells c =
    let value : false ≡ meets c.args.a (image c.args.d.now c.args.b c.args.s) = search rules in
    let means = images-means c.args.d.now c.args.a c.args.b c.args.s
    (rw (← c.a.view_is) c.a.invariant.order) (rw (← c.b.view_is) c.b.invariant.order) in
    (λ t. absurd (false≢true t), λ h. value ∙ means.1 h)

pub plus-requires-2 : goal.plus-requires-2
plus-requires-2 c = FitsVector-plus (InRange-lo c.b.invariant) c.offset-step.ensures.small

pub returns-clause-cells : goal.returns-clause-cells
returns-clause-cells c =
    let value : c.at_most-2.result ≡ meets c.args.a (image c.args.d.now c.args.b c.args.s) = search rules in
    rw value (images-means c.args.d.now c.args.a c.args.b c.args.s
    (rw (← c.a.view_is) c.a.invariant.order) (rw (← c.b.view_is) c.b.invariant.order))
