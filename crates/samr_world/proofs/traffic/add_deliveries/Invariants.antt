use Rattle.std.proofs.Common.{◌≡◌, ◌++◌, map}
use Rattle.std.specs.List.{range_with_len}
use Rattle.samr_world.specs.declared.event.Event.TheVariants.{Deliver}
use Rattle.samr_world.proofs.traffic.add_deliveries.Given as goal

abbrev pub invariant-loop-place : goal.invariant-loop-place
invariant-loop-place l = l.events.items ≡ l.initial.events.items ++ map Deliver (range_with_len 0 l.place)
