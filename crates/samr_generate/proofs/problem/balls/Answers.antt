use Rattle.std.proofs.Common.{◌≡◌, ◌∙◌, sym, ap, ◌++◌, ◌∷◌, [], List, ℕ, ◌+◌, ◌*◌, arith}
use Rattle.std.proofs.lemmas.List.FromFn.{map-range_with_len_more}
use Rattle.samr_shape.specs.declared.shape.Shape.{Shape}
use Rattle.samr_generate.specs.Draws.{generator}
use Rattle.samr_generate.specs.Made.{ball}
use Rattle.samr_generate.proofs.problem.balls.Goals as goal

pub loop-number-preserved : goal.loop-number-preserved
loop-number-preserved c =
    let seed = c.args.seed in
    let n = c.loop-number._number in
    let f : ℕ → Shape = λ n. ball c.args.seed c.args.size (n * 5 + 1) in
    let e : n * 5 + 1 + 5 ≡ (n + 1) * 5 + 1 = omega arith in (
      c.in_ok-push.ensures.items
          ∙ ap (λ (x : Shape). c.loop-number.balls.items ++ x ∷ []) (c.next_ball.ensures.value seed (n * 5 + 1) c.loop-number.invariant.1)
          ∙ ap (λ (xs : List Shape). xs ++ f n ∷ []) c.loop-number.invariant.0
          ∙ sym (map-range_with_len_more f 0 n n (omega arith)),
      c.next_ball.ensures.next seed (n * 5 + 1) c.loop-number.invariant.1 ∙ ap (generator seed) e,
    )
