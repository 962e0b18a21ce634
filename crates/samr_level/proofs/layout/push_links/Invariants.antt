use Rattle.std.proofs.Common.{◌≡◌, ◌++◌, take, map}
use Rattle.samr_level.specs.Refs.{link}
use Rattle.samr_level.proofs.layout.push_links.Given as goal

abbrev pub invariant-loop-b : goal.invariant-loop-b
invariant-loop-b l = l.edges.items ≡ l.fn.edges.items ++ map (λ b. link l.fn.a b l.fn.s) (take l.b-index l.heads)
