use Rattle.std.proofs.Common.{◌≡◌, ◌++◌, take, map}
use Rattle.samr_modify.specs.Pieces.{piece}
use Rattle.samr_trials_stages.proofs.modifies.push_pieces.Given as goal

abbrev pub invariant-loop-b : goal.invariant-loop-b
invariant-loop-b l = l.out.items ≡ l.fn.out.items ++ map (λ b. piece l.fn.m.old.owner b) (take l.b-index l.b-items)
