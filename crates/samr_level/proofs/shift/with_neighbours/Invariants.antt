use Rattle.std.proofs.Common.{◌≡◌, take}
use Rattle.std.specs.Prelude.{[], ◌∷◌, pos, negsuc}
use Rattle.std.specs.List.{flat_map}
use Rattle.samr_box.specs.Vector.{put}
use Rattle.samr_level.proofs.shift.with_neighbours.Given as goal

abbrev pub invariant-loop-s : goal.invariant-loop-s
invariant-loop-s l = l.wider.items ≡ flat_map (λ s. put l.axis s (negsuc 0) ∷ s ∷ put l.axis s (pos 1) ∷ []) (take l.s-index l.shifts)
