use Rattle.std.proofs.Common.{◌≡◌, ◌+◌, ◌<◌, ◌≤◌, ℕ, get_or}
use Rattle.samr_sign.proofs.signature.add_counts.Given as goal

abbrev pub invariant-loop-place : goal.invariant-loop-place
invariant-loop-place l = record {
  done : (k : ℕ) → k < l.place → get_or l.to k 0 ≡ get_or l.fn.to k 0 + get_or l.from k 0;
  left : (k : ℕ) → l.place ≤ k → get_or l.to k 0 ≡ get_or l.fn.to k 0;
}
