use Rattle.std.proofs.Common.{◌≡◌, ◌++◌, take}
use Rattle.std.specs.List.{filter_map}
use Rattle.samr_fill.specs.Sending.{AreByCorner}
use Rattle.samr_linear.specs.LinearSending.{answer_in}
use Rattle.samr_linear.proofs.sending.push_answers.Given as goal

abbrev pub invariant-loop-q : goal.invariant-loop-q
invariant-loop-q l = AreByCorner l.coarser → l.out.items ≡ l.fn.out.items ++ filter_map (λ q. answer_in l.d l.fn.real q l.coarser) (take l.q-index l.requests)
