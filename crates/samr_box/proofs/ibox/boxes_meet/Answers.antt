use Rattle.std.proofs.Common.{◌≡◌, ◌∙◌, rules}
use Rattle.std.proofs.lemmas.Bool.{false≢true}
use Rattle.std.specs.Prelude.{false}
use Rattle.samr_box.specs.Corners.{meets}
use Rattle.samr_box.proofs.CellSets.{meets-means}
use Rattle.samr_box.proofs.ibox.boxes_meet.Goals as goal

pub returns-then-not-at_most-clause-cells : goal.returns-then-not-at_most-clause-cells
returns-then-not-at_most-clause-cells c =
    let value : false ≡ meets c.args.a c.args.b = search rules in
    let means = meets-means c.args.a c.args.b (rw (← c.a.view_is) c.a.invariant.order) (rw (← c.b.view_is) c.b.invariant.order) in
    (λ t. absurd (false≢true t), λ h. value ∙ means.1 h)

pub returns-clause-cells : goal.returns-clause-cells
returns-clause-cells c =
    let value : c.at_most-2.result ≡ meets c.args.a c.args.b = search rules in
    rw value (meets-means c.args.a c.args.b (rw (← c.a.view_is) c.a.invariant.order) (rw (← c.b.view_is) c.b.invariant.order))
