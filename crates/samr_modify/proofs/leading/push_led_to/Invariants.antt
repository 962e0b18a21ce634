use Rattle.std.proofs.Common.{◌≡◌, ◌++◌, take, map, filter}
use Rattle.samr_level.specs.Overlaps.{is_true}
use Rattle.samr_level.specs.Refs.{link}
use Rattle.samr_modify.proofs.leading.push_led_to.Given as goal

abbrev pub invariant-loop-b : goal.invariant-loop-b
invariant-loop-b l = l.out.items ≡ l.fn.out.items ++ filter (λ e. is_true l.ruler e) (map (λ b. link l.fn.e.base b l.fn.e.shift) (take l.b-index l.news))
