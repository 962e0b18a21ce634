use Rattle.std.proofs.Common.{◌≡◌, take}
use Rattle.std.specs.Prelude.{cond, ◌∷◌, []}
use Rattle.std.specs.List.{flat_map}
use Rattle.samr_modify.specs.Entries.{concerns, shown}
use Rattle.samr_modify.proofs.letters.told_to.Given as goal

abbrev pub invariant-loop-r : goal.invariant-loop-r
invariant-loop-r l = l.out.items ≡ flat_map (λ r. cond (concerns l.rank r) (shown l.rank r ∷ []) []) (take l.r-index l.known)
