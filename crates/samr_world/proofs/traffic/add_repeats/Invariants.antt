use Rattle.std.proofs.Common.{◌≡◌, ◌++◌, map}
use Rattle.std.specs.List.{range_with_len}
use Rattle.samr_world.specs.declared.event.Event.TheVariants.{Repeat}
use Rattle.samr_world.proofs.traffic.add_repeats.Given as goal

abbrev pub invariant-loop-place : goal.invariant-loop-place
invariant-loop-place l = l.events.items ≡ l.initial.events.items ++ map Repeat (range_with_len 0 l.place)
