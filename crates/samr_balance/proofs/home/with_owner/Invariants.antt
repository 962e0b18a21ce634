use Rattle.std.proofs.Common.{◌≡◌, take, map}
use Rattle.samr_balance.proofs.home.with_owner.Given as goal

abbrev pub invariant-loop-bx : goal.invariant-loop-bx
invariant-loop-bx l = l.olds.items ≡ map (λ b. record { owner = l.rank; bx = b }) (take l.bx-index l.cuts)
