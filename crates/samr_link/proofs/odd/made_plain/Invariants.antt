use Rattle.std.proofs.Common.{◌≡◌, map}
use Rattle.std.specs.Vec.{vec_capacity}
use Rattle.samr_link.proofs.odd.made_plain.Given as goal

abbrev pub invariant-ends : goal.invariant-ends
invariant-ends g l = (l.room.items ≡ map (λ w. w.end) l.yielded) × (vec_capacity l.room ≡ vec_capacity l.fn.room)
