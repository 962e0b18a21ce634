use Rattle.std.proofs.Common.{◌≡◌, ◌++◌, take, filter}
use Rattle.samr_box.specs.Corners.{meets}
use Rattle.samr_find.specs.Places.{passes_at}
use Rattle.samr_find.proofs.finder.Finder.add_meeting.Given as goal

abbrev pub invariant-loop-place : goal.invariant-loop-place
invariant-loop-place l = l.out.items ≡ l.fn.out.items ++ filter (passes_at (λ a. meets a l.b) l.self) (take l.place-index l.places)
