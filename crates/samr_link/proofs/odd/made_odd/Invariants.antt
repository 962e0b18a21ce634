use Rattle.std.proofs.Common.{◌≡◌, map}
use Rattle.std.specs.Vec.{vec_capacity}
use Rattle.samr_link.proofs.odd.made_odd.Given as goal

abbrev pub invariant-ends : goal.invariant-ends
invariant-ends g l = (map (λ w. w.end) l.odd.items ≡ l.yielded) × (vec_capacity l.odd ≡ vec_capacity l.fn.odd)
