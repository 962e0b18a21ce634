use Rattle.std.proofs.Common.{◌≡◌, map, take}
use Rattle.toml.specs.View.{view}
use Rattle.samr_problem.specs.Fields.{probe_of}
use Rattle.samr_problem.proofs.probe.probes_of.Given as goal

abbrev pub invariant-loop-item : goal.invariant-loop-item
invariant-loop-item l = l.probes.items ≡ map (probe_of l.fn.dim) (map view (take l.item-index l.items))
