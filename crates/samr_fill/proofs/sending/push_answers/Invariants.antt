use Rattle.std.proofs.Common.{◌≡◌, ◌++◌, take}
use Rattle.std.specs.List.{filter_map}
use Rattle.samr_fill.specs.Sending.{answer_from, AllByCorner}
use Rattle.samr_fill.proofs.sending.push_answers.Given as goal

abbrev pub invariant-loop-q : goal.invariant-loop-q
invariant-loop-q l = AllByCorner l.coarser → l.out.items ≡ l.fn.out.items ++ filter_map (λ q. answer_from l.d l.coarser q) (take l.q-index l.requests)
