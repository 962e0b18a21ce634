use Rattle.std.proofs.Common.{◌≡◌, ◌++◌, take}
use Rattle.std.specs.List.{filter_map}
use Rattle.samr_fill.specs.Sending.{copied_from}
use Rattle.samr_linear.proofs.sending.push_edges.Given as goal

abbrev pub invariant-loop-e : goal.invariant-loop-e
invariant-loop-e l = l.out.items ≡ l.fn.out.items ++ filter_map (λ e. copied_from l.d l.to l.field l.patch e) (take l.e-index l.edges)
