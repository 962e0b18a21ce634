use Rattle.std.proofs.Common.{◌∙◌, ℕ, ◌++◌, List, [], ap, map, arith, to_z, of_z}
use Rattle.std.specs.Int.{w64}
use Rattle.std.specs.Prelude.{unsigned_abs}
use Rattle.samr_find.proofs.Ranges.{one_more_appended}
use Rattle.samr_load.specs.Pieces.{Placed}
use Rattle.samr_load.specs.Descent.{pieces_of}
use Rattle.samr_load.specs.Balanced.{owned_by, balancing}
use Rattle.samr_mesh_plain.proofs.CutFacts.{count_of, item_is}
use Rattle.samr_mesh_plain.proofs.balancing.balanced.Goals as goal

pub index-requires : goal.index-requires
index-requires c =
    let long = count_of _ _ c.in_ok-pieces.pieces.items c.args.ranks c.in_ok-pieces.ensures in
    omega (arith, long, c.from.ensures, c.loop-rank-test.true, c.in_ok-pieces.pieces.ok.0)

pub loop-rank-preserved : goal.loop-rank-preserved
loop-rank-preserved c =
    let given : ℕ → List Placed = λ r. pieces_of (balancing c.args.ranks (unsigned_abs (to_z w64 (of_z w64 c.args.smallest))) c.args.boxes.now) r in
    let rank = c.loop-rank.rank in
    let here = item_is _ given c.in_ok-pieces.pieces.items c.args.ranks rank c.from.result c.index.result.now c.in_ok-pieces.ensures c.loop-rank-test.true c.from.ensures c.index.ensures in
    let step = c.in_ok-push_pieces.ensures ∙ ap (λ (l : List Placed). c.loop-rank.all.items ++ map (owned_by rank) l) (c.as_slice.ensures.value ∙ here) in
    one_more_appended (λ r. map (owned_by r) (given r)) rank [] c.loop-rank.all.items c.push_pieces.new.out.items step c.loop-rank.invariant
