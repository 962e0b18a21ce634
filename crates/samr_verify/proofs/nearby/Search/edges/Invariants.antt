use Rattle.std.proofs.Common.{take}
use Rattle.std.specs.List.{flat_map}
use Rattle.samr_verify.specs.Nearby.{edges_from, AlikeBehind}
use Rattle.samr_verify.proofs.nearby.Search.edges.Given as goal

abbrev pub invariant-loop-a : goal.invariant-loop-a
invariant-loop-a l = AlikeBehind l.fn.most l.out.items (flat_map (λ a. edges_from l.self.ruler l.self.shifts.items l.self.heads.now a) (take l.a-index l.bases))
