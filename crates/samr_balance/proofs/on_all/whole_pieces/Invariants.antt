use Rattle.std.proofs.Common.{◌≡◌, take, map}
use Rattle.samr_balance.proofs.on_all.whole_pieces.Given as goal

abbrev pub invariant-loop-bx : goal.invariant-loop-bx
invariant-loop-bx l = l.list.items ≡ map (λ b. record { bx = b; origin = record { owner = l.rank; bx = b } }) (take l.bx-index l.cuts)
