use Rattle.samr_load.specs.Pieces.{piece_cmp}
use Rattle.samr_load.proofs.Sorts.{sort_is}
use Rattle.samr_load.proofs.PieceOrder.{piece_total, same_from_piece_cmp}
use Rattle.samr_load.proofs.pieces.in_piece_order.Goals as goal

pub returns : goal.returns
returns c =
    sort_is piece_cmp piece_total same_from_piece_cmp _ _ c.sort_unstable.ensures.permutation c.sort_unstable.ensures.sorted
