use Rattle.std.proofs.Common.{◌≡◌, length, filter, None, ℕ, ap, arith, ◌∙◌}
use Rattle.std.specs.List.{range_with_len, fold}
use Rattle.samr_sign.specs.Line.{is_zero_cut, nearer, zero_cut}
use Rattle.samr_sign.proofs.Lines.{fold_passing}
use Rattle.samr_sign.proofs.line.zero_cut.Goals as goal

pub loop-c-preserved : goal.loop-c-preserved
loop-c-preserved c =
    fold_passing (is_zero_cut c.args.least c.args.s.now) (nearer (length c.args.s.now)) None c.loop-c.best c.nearer_zero-best.result c.loop-c.c c.loop-c.invariant c.nearer_zero-best.ensures

pub returns : goal.returns
unfolding zero_cut
returns c =
    let all : c.loop-c.c ≡ length c.args.s.now = omega arith in
    c.loop-c.invariant ∙ ap (λ (n : ℕ). fold (nearer (length c.args.s.now)) None (filter (is_zero_cut c.args.least c.args.s.now) (range_with_len 0 n))) all
