use Rattle.std.proofs.Common.{◌≡◌, take, map}
use Rattle.std.specs.List.{flat_map}
use Rattle.samr_level.specs.Levels.{own}
use Rattle.samr_modify.specs.Pieces.{piece}
use Rattle.samr_trials_stages.proofs.modifies.pieces_of.Given as goal

abbrev pub invariant-loop-m : goal.invariant-loop-m
invariant-loop-m l = l.out.items ≡ flat_map (λ m. map (λ b. piece m.old.owner b) (own l.fn.rank m.news)) (take l.m-index l.moves)
