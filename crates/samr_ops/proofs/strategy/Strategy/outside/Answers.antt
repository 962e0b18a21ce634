use Rattle.std.proofs.Common.{sym, ◌∙◌}
use Rattle.samr_box.specs.declared.vector.Axis.TheVariants.{I, J, K}
use Rattle.samr_ops.proofs.WalkLaws.{others_stay, near_same, i≢j, i≢k, j≢k}
use Rattle.samr_ops.proofs.strategy.Strategy.outside.Goals as goal

pub step-requires : goal.step-requires
step-requires g c = c.requires I

pub step-requires-2 : goal.step-requires-2
step-requires-2 g c =
    let r = c.args.self.now in
    let d = c.args.d.now in
    let first = others_stay r d I J c.args.x c.in_ok-y.y i≢j (sym c.step.ensures ∙ c.in_ok-y.was) in
    near_same r d J c.args.x c.in_ok-y.y first (c.requires J)

pub step-requires-3 : goal.step-requires-3
step-requires-3 g c =
    let r = c.args.self.now in
    let d = c.args.d.now in
    let first = others_stay r d I K c.args.x c.in_ok-y.y i≢k (sym c.step.ensures ∙ c.in_ok-y.was) in
    let second = others_stay r d J K c.in_ok-y.y c.in_ok-z.z j≢k (sym c.step-2.ensures ∙ c.in_ok-z.was) in
    near_same r d K c.args.x c.in_ok-z.z (second ∙ first) (c.requires K)
