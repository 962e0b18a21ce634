use Rattle.std.proofs.Common.{◌≡◌, map, option_map}
use Rattle.std.specs.List.{range_with_len}
use Rattle.toml.specs.View.{view}
use Rattle.samr_problem.specs.Contexts.{ratio_of}
use Rattle.samr_problem.proofs.context.ratios_of.Given as goal

abbrev pub invariant-loop-n : goal.invariant-loop-n
invariant-loop-n l = l.ratios.items ≡ map (λ n. ratio_of l.dim (option_map (λ v. view v.now) l.value) n) (range_with_len 0 l.n)
