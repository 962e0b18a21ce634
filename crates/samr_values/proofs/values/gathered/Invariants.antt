use Rattle.std.proofs.Common.{◌≡◌, ◌++◌}
use Rattle.std.specs.List.{flat_map}
use Rattle.samr_values.proofs.values.gathered.Given as goal

abbrev pub invariant-each : goal.invariant-each
invariant-each l = l.all.items ≡ l.fn.own.items ++ flat_map (λ letter. letter.body) l.yielded
