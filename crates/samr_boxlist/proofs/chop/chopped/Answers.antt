use Rattle.std.proofs.Common.{◌≡◌, ap, ◌∙◌}
use Rattle.std.proofs.lemmas.Result.{IfOk-weaker}
use Rattle.samr_box.specs.declared.vector.IVec.{IVec}
use Rattle.samr_boxlist.specs.Covers.{cover}
use Rattle.samr_boxlist.proofs.chop.chopped.Goals as goal

pub returns-clause-cells : goal.returns-clause-cells
returns-clause-cells c =
    IfOk-weaker c.chopped_on-3.result
    (λ v. (x : IVec) → cover x v.items ≡ cover x c.as_slice-2.result.now)
    (λ v. (x : IVec) → cover x v.items ≡ cover x c.args.list.now)
    (λ v e x. e x ∙ ap (cover x) c.as_slice-2.ensures.value ∙ c.in_ok-bars.ensures.cells x
    ∙ ap (cover x) c.as_slice.ensures.value ∙ c.in_ok-slabs.ensures.cells x)
    c.chopped_on-3.ensures.cells
