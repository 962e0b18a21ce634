use Rattle.std.proofs.Common.{◌≡◌, ◌++◌}
use Rattle.std.specs.List.{flat_map}
use Rattle.samr_modify.proofs.letters.gathered.Given as goal

abbrev pub invariant-loop-letter : goal.invariant-loop-letter
invariant-loop-letter l = l.known.items ≡ l.fn.known.items ++ flat_map (λ letter. letter.body) l.yielded
