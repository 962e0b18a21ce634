use Rattle.std.proofs.Common.{◌≡◌, length, filter, map, ℕ, ap, arith, ◌∙◌}
use Rattle.std.specs.List.{range_with_len, fold}
use Rattle.samr_sign.specs.Line.{is_turn}
use Rattle.samr_sign.specs.Decide.{sharper, turn_at, turns}
use Rattle.samr_sign.proofs.Lines.{fold_made}
use Rattle.samr_sign.proofs.cuts.sharpest.Goals as goal

pub loop-place-preserved : goal.loop-place-preserved
loop-place-preserved c =
    fold_made (is_turn c.args.least c.args.s.now) sharper (turn_at c.args.axis c.args.s.now) c.args.best c.loop-place.best c.sharper_at-best.result c.loop-place.place c.loop-place.invariant c.sharper_at-best.ensures

pub returns : goal.returns
unfolding turns
returns c =
    let all : c.loop-place.place ≡ length c.args.s.now = omega arith in
    c.loop-place.invariant ∙ ap (λ (n : ℕ). fold sharper c.args.best (map (turn_at c.args.axis c.args.s.now) (filter (is_turn c.args.least c.args.s.now) (range_with_len 0 n)))) all
