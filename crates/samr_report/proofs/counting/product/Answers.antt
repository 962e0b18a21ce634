use Rattle.std.proofs.Common.{◌∙◌, ap, ℕ, ◌*◌, ◌-◌, ◌^◌, min}
use Rattle.samr_sched.proofs.Counted.{capped_product}
use Rattle.samr_report.proofs.counting.product.Goals as goal

pub returns : goal.returns
returns c =
    c.saturating_mul.ensures ∙ ap (λ (n : ℕ). min (n * c.args.k) (2 ^ 64 - 1)) c.saturating_mul-layer.ensures
    ∙ capped_product (2 ^ 64 - 1) (c.args.i * c.args.j) c.args.k
