use Rattle.std.proofs.Common.{◌∙◌, sym, ap, subst}
use Rattle.samr_data.specs.Grids.{Grid, IsGrid}
use Rattle.samr_values.proofs.Written.{fine_inside, fine_poured, nothing_poured}
use Rattle.samr_values.proofs.pouring.pour_one.Goals as goal

pub unpack-requires-clause-into : goal.unpack-requires-clause-into
unpack-requires-clause-into c =
    let is = subst (λ (g : Grid). IsGrid g) c.patch.view_is c.patch.invariant in
    let box = ap (λ (g : Grid). g.bx) c.patch.view_is in
    fine_inside c.args.patch.now c.patch.inside.bx c.args.field c.args.q.now is box (sym c.has_fine.ensures ∙ c.if-has_fine.true) c.requires.parcel

pub returns-then-has_fine-clause-values : goal.returns-then-has_fine-clause-values
returns-then-has_fine-clause-values c = λ v agree.
    let is = subst (λ (g : Grid). IsGrid g) c.patch.view_is c.patch.invariant in
    let box = ap (λ (g : Grid). g.bx) c.patch.view_is in
    c.unpack.ensures
    ∙ fine_poured c.args.patch.now c.patch.inside.bx c.args.field c.args.q.now is box v c.as_slice.result.now c.as_slice.ensures
    (sym c.has_fine.ensures ∙ c.if-has_fine.true) agree

pub returns-else-has_fine-clause-values : goal.returns-else-has_fine-clause-values
returns-else-has_fine-clause-values c = λ v agree.
    let is = subst (λ (g : Grid). IsGrid g) c.patch.view_is c.patch.invariant in
    let box = ap (λ (g : Grid). g.bx) c.patch.view_is in
    nothing_poured c.args.patch.now c.patch.inside.bx c.args.field c.args.q.now is box v (sym c.has_fine.ensures ∙ c.if-has_fine.false)
