use Rattle.std.proofs.Common.{◌≡◌, sym, ap, ◌∙◌, ◌++◌, map, filter}
use Rattle.std.proofs.lemmas.List.{take_all}
use Rattle.std.specs.Prelude.{◌∷◌, []}
use Rattle.samr_level.specs.Refs.{Link, link}
use Rattle.samr_level.specs.Overlaps.{is_true}
use Rattle.samr_level.proofs.Steps.{picked_on, picked_off}
use Rattle.samr_modify.specs.Found.{led_to}
use Rattle.samr_modify.proofs.leading.push_led_to.Goals as goal
use Rattle.samr_modify.proofs.leading.push_led_to.Goals.{then-is_near+in_ok-push, else-is_near}

pub loop-b-preserved : goal.loop-b-preserved
loop-b-preserved c =
    elim c.if-is_near.branch [
      | then-is_near+in_ok-push w ↦
          let step : c.if-is_near.out.items ≡ c.loop-b.out.items ++ link c.args.e.base c.b-item.result c.args.e.shift ∷ [] = rw w.out-is (w.in_ok-push.ensures.items ∙ ap (λ (v : Link). c.loop-b.out.items ++ v ∷ []) c.led-edge.ensures) in
          picked_on c.args.news.now c.loop-b.b-index c.b-item.result c.loop-b-test.true c.b-item.is
          (λ e. is_true c.args.ruler.now e) (λ x. link c.args.e.base x c.args.e.shift) _ _ _ c.loop-b.invariant (ap (λ (v : Link). is_true c.args.ruler.now v) (sym c.led-edge.ensures) ∙ sym c.is_near.ensures ∙ w.if-is_near.true) step
      | else-is_near w ↦
          let step : c.if-is_near.out.items ≡ c.loop-b.out.items = rw w.out-is in
          picked_off c.args.news.now c.loop-b.b-index c.b-item.result c.loop-b-test.true c.b-item.is
          (λ e. is_true c.args.ruler.now e) (λ x. link c.args.e.base x c.args.e.shift) _ _ _ c.loop-b.invariant (ap (λ (v : Link). is_true c.args.ruler.now v) (sym c.led-edge.ensures) ∙ sym c.is_near.ensures ∙ w.if-is_near.false) step
    ]

pub returns : goal.returns
unfolding led_to
returns c =
    c.loop-b.invariant
    ∙ ap (λ xs. c.args.out.now.items ++ filter (λ e. is_true c.args.ruler.now e) (map (λ x. link c.args.e.base x c.args.e.shift) xs))
    (take_all c.loop-b.b-index c.args.news.now c.loop-b-test.false)
