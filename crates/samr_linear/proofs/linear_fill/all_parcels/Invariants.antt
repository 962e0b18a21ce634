use Rattle.std.proofs.Common.{◌≡◌, ◌++◌}
use Rattle.std.specs.List.{flat_map}
use Rattle.samr_linear.proofs.linear_fill.all_parcels.Given as goal

abbrev pub invariant-loop-letter : goal.invariant-loop-letter
invariant-loop-letter l = l.all.items ≡ l.fn.own.items ++ flat_map (λ letter. letter.body) l.yielded
