use Rattle.std.proofs.Common.{◌≡◌, ℕ, List, length, ap, ◌∙◌, arith}
use Rattle.samr_box.specs.Corners.{Corners, cells_of, grown}
use Rattle.samr_data.proofs.Lists.{length-listed}
use Rattle.samr_data.proofs.patch.Patch.new.Goals as goal

pub invariant_of-result : goal.invariant_of-result
invariant_of-result c =
    let same : cells_of c.grow.result ≡ cells_of (grown c.args.bx c.args.width) = ap (λ (b : Corners). cells_of b) c.grow.ensures.value in
    record {
      positive = c.requires.positive;
      whole = c.requires.whole;
      full = ap (λ (l : List ℕ). length l) c.in_ok-values.ensures.values ∙ length-listed c.grow.result (λ x. 0) ∙ same;
      few = omega (arith, same, c.in_ok-values.ensures.few);
    }
