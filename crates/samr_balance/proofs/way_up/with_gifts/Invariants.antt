use Rattle.std.proofs.Common.{◌≡◌, take, ◌++◌}
use Rattle.std.specs.List.{flat_map}
use Rattle.samr_balance.proofs.way_up.with_gifts.Given as goal

abbrev pub invariant-loop-letter : goal.invariant-loop-letter
invariant-loop-letter l = l.hand.items ≡ l.fn.hand.items ++ flat_map (λ letter. letter.body.pieces) (take l.letter-index l.held)
