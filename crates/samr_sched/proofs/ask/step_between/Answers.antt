use Rattle.std.proofs.Common.{◌≡◌, ap, sym, subst, ◌∙◌}
use Rattle.samr_box.specs.declared.vector.IVec.{IVec}
use Rattle.samr_box.specs.Vector.{IsRatio}
use Rattle.samr_box.specs.Ratios.{coarse}
use Rattle.samr_sched.proofs.Plain.{quotient_is}
use Rattle.samr_sched.proofs.ask.step_between.Goals as goal

pub returns : goal.returns
returns c = λ step ratio product.
    let is : c.coarsen_cell.result ≡ step =
    c.coarsen_cell.ensures.value
    ∙ ap (λ (v : IVec). coarse v c.args.coarse) c.factors.ensures.value
    ∙ quotient_is c.args.coarse step c.args.fine c.coarsen_cell.ensures.ratio product in
    c.ratio_or.ensures (subst IsRatio (sym is) ratio) ∙ is
