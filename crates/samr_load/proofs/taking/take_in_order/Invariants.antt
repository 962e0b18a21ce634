use Rattle.std.proofs.Common.{◌≡◌, ◌++◌, ◌+◌, ◌<◌, ◌^◌, length}
use Rattle.std.specs.Prelude.{All}
use Rattle.samr_load.specs.Pieces.{size_of, load}
use Rattle.samr_load.specs.Taking.{taking}
use Rattle.samr_load.proofs.taking.take_in_order.Given as goal

abbrev pub invariant-loop-first : goal.invariant-loop-first
invariant-loop-first l = record {
  taken : l.taken.items ++ (taking l.smallest l.left l.room).taken ≡ (taking l.smallest l.fn.list l.fn.want).taken;
  rest : (taking l.smallest l.left l.room).rest ≡ (taking l.smallest l.fn.list l.fn.want).rest;
  cells : load l.taken.items + load l.left ≡ load l.fn.list;
  fits : All (λ q. size_of q < 2 ^ 63) l.left;
}

abbrev pub decreases-loop-first : goal.decreases-loop-first
decreases-loop-first l = length l.left
