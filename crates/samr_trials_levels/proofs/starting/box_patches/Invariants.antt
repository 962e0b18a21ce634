use Rattle.std.proofs.Common.{◌≡◌, map, take}
use Rattle.std.specs.List.{enumerate_from}
use Rattle.samr_trials_levels.specs.First.{first_field}
use Rattle.samr_trials_levels.proofs.starting.box_patches.Given as goal

abbrev pub invariant-each : goal.invariant-each
invariant-each l = l.fields.items ≡ map (first_field l.fn.bound l.fn.start l.fn.boxes) (enumerate_from 0 (take l.f l.fn.widths))
