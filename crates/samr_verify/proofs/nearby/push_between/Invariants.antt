use Rattle.std.proofs.Common.{◌≡◌, ◌++◌, take}
use Rattle.samr_verify.specs.Nearby.{edges_between}
use Rattle.samr_verify.proofs.nearby.push_between.Given as goal

abbrev pub invariant-loop-s : goal.invariant-loop-s
invariant-loop-s l = l.out.items ≡ l.fn.out.items ++ edges_between l.ruler (take l.s-index l.shifts) l.fn.a l.fn.b
