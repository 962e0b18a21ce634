use Rattle.std.proofs.Common.{◌≡◌, ◌++◌, take, map}
use Rattle.samr_load.specs.Balanced.{owned_by}
use Rattle.samr_mesh_plain.proofs.balancing.push_pieces.Given as goal

abbrev pub invariant-loop-piece : goal.invariant-loop-piece
invariant-loop-piece l = l.out.items ≡ l.fn.out.items ++ map (owned_by l.fn.owner) (take l.piece-index l.pieces)
