use Rattle.std.proofs.Common.{◌≡◌, sym, ap, ◌∙◌, ◌++◌}
use Rattle.std.specs.Prelude.{◌∷◌, []}
use Rattle.samr_level.specs.Refs.{link}
use Rattle.samr_level.specs.Overlaps.{is_true}
use Rattle.samr_level.proofs.Steps.{picked_on, picked_off}
use Rattle.samr_verify.proofs.nearby.push_between.Goals as goal
use Rattle.samr_verify.proofs.nearby.push_between.Goals.{then-is_near+in_ok-push, else-is_near}

pub loop-s-preserved : goal.loop-s-preserved
loop-s-preserved c =
    elim c.if-is_near.branch [
      | then-is_near+in_ok-push w ↦
          let step : c.if-is_near.out.items ≡ c.loop-s.out.items ++ link c.args.a c.args.b c.s-item.result ∷ [] = rw w.out-is (w.in_ok-push.ensures.items ∙ ap (λ e. c.loop-s.out.items ++ e ∷ []) c.edge_at-edge.ensures) in
          picked_on c.args.shifts.now c.loop-s.s-index c.s-item.result c.loop-s-test.true c.s-item.is
          (λ e. is_true c.args.ruler.now e) (λ s. link c.args.a c.args.b s) _ _ _ c.loop-s.invariant (ap (λ e. is_true c.args.ruler.now e) (sym c.edge_at-edge.ensures) ∙ sym c.is_near.ensures ∙ w.if-is_near.true) step
      | else-is_near w ↦
          let step : c.if-is_near.out.items ≡ c.loop-s.out.items = rw w.out-is in
          picked_off c.args.shifts.now c.loop-s.s-index c.s-item.result c.loop-s-test.true c.s-item.is
          (λ e. is_true c.args.ruler.now e) (λ s. link c.args.a c.args.b s) _ _ _ c.loop-s.invariant (ap (λ e. is_true c.args.ruler.now e) (sym c.edge_at-edge.ensures) ∙ sym c.is_near.ensures ∙ w.if-is_near.false) step
    ]
