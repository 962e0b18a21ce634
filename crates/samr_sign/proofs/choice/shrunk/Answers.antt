use Rattle.std.proofs.Common.{ap, sym, subst, ◌∙◌}
use Rattle.samr_box.specs.Corners.{Corners, IsBox, span}
use Rattle.samr_sign.proofs.Slices.{corners}
use Rattle.samr_sign.proofs.Shrinking.{IsBox-shrunk, span_shrunk, steps_fit, shrunk_is}
use Rattle.samr_sign.proofs.choice.shrunk.Goals as goal

pub minus-requires : goal.minus-requires
minus-requires c =
    rw c.steps-behind.ensures
    (steps_fit c.behind.result c.behind-2.result c.behind-3.result (corners c.b.inside.lo c.b.inside.hi) c.b.invariant c.behind.ensures.small c.behind-2.ensures.small c.behind-3.ensures.small)

pub invariant_of-result : goal.invariant_of-result
invariant_of-result c =
    let is = shrunk_is c.args.s.now (corners c.b.inside.lo c.b.inside.hi) c.plus.result c.minus.result c.steps-before.result c.steps-behind.result _ _ _ _ _ _
    (c.b.view_is ∙ c.bx-b.ensures.value) c.plus.ensures c.minus.ensures c.steps-before.ensures c.steps-behind.ensures
    c.before-2.ensures.value c.before-3.ensures.value c.before-4.ensures.value c.behind.ensures.value c.behind-2.ensures.value c.behind-3.ensures.value in
    subst (λ (b : Corners). IsBox b) (sym is) (IsBox-shrunk c.args.s.now c.bx-b.ensures.sign c.requires)

pub returns-clause-lengths : goal.returns-clause-lengths
returns-clause-lengths c = λ axis.
    let is = shrunk_is c.args.s.now (corners c.b.inside.lo c.b.inside.hi) c.plus.result c.minus.result c.steps-before.result c.steps-behind.result _ _ _ _ _ _
    (c.b.view_is ∙ c.bx-b.ensures.value) c.plus.ensures c.minus.ensures c.steps-before.ensures c.steps-behind.ensures
    c.before-2.ensures.value c.before-3.ensures.value c.before-4.ensures.value c.behind.ensures.value c.behind-2.ensures.value c.behind-3.ensures.value in
    ap (span axis) is ∙ span_shrunk axis c.args.s.now c.bx-b.ensures.sign c.requires
