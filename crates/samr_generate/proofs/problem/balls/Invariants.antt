use Rattle.std.proofs.Common.{◌≡◌, ◌+◌, ◌*◌, map}
use Rattle.std.specs.List.{range_with_len}
use Rattle.samr_generate.specs.Draws.{generator}
use Rattle.samr_generate.specs.Made.{ball}
use Rattle.samr_generate.proofs.problem.balls.Given as goal

abbrev pub invariant-loop-number : goal.invariant-loop-number
invariant-loop-number l =
    (l.balls.items ≡ map (λ n. ball l.fn.seed l.fn.size (n * 5 + 1)) (range_with_len 0 l._number)) × (l.words ≡ generator l.fn.seed (l._number * 5 + 1))
