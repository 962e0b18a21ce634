use Rattle.std.proofs.Common.{◌≡◌, ◌+◌, ◌≤◌, eqb, length, take}
use Rattle.std.specs.List.{suffix_len}
use Rattle.samr_sign.proofs.line.end.Given as goal

abbrev pub invariant-loop-end : goal.invariant-loop-end
invariant-loop-end l = (l.end ≤ length l.counts) × (l.end + suffix_len (λ x. eqb x 0) l.counts ≡ length l.counts + suffix_len (λ x. eqb x 0) (take l.end l.counts))

abbrev pub decreases-loop-end : goal.decreases-loop-end
decreases-loop-end l = l.end
