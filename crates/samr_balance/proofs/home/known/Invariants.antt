use Rattle.std.proofs.Common.{◌≡◌, take, ◌++◌}
use Rattle.std.specs.List.{flat_map}
use Rattle.samr_balance.specs.HomeRow.{kept_on, told_on}
use Rattle.samr_balance.proofs.home.known.Given as goal

abbrev pub invariant-loop-letter : goal.invariant-loop-letter
invariant-loop-letter l = l.news.items ≡ kept_on l.old l.rank l.pieces ++ flat_map (λ letter. told_on l.old letter.sender letter.body) (take l.letter-index l.held)
