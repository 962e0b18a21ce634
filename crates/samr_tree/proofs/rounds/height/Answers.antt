use Rattle.std.proofs.Common.{◌-◌, ◌∙◌, ap, sym, arith}
use Rattle.samr_tree.specs.Tree.{depth}
use Rattle.samr_tree.specs.TreeSum.{sums_at, tellings_at}
use Rattle.samr_tree.proofs.TreeTotals.{root_total, all_after}
use Rattle.samr_tree.proofs.rounds.height.Goals as goal

pub returns-clause-up : goal.returns-clause-up
returns-clause-up c = λ values count.
    let last = c.depth.ensures ∙ ap (λ n. depth (n - 1)) (sym count) in
    ap (λ k. (sums_at values k).number 0) last ∙ root_total values (omega (arith, count))

pub returns-clause-down : goal.returns-clause-down
returns-clause-down c = λ values rank count below.
    let last = c.depth.ensures ∙ ap (λ n. depth (n - 1)) (sym count) in
    ap (λ k. (tellings_at values k).number rank) last ∙ all_after values rank (omega (arith, count, below))
