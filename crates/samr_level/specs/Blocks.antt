-- Level 0: each box of the domain is cut into blocks from its lower corner, numbered through all of them.
use Rattle.std.specs.Prelude.{ℕ, ◌*◌, ◌/◌, ◌<◌, ◌^◌, pos, List, map, length, unsigned_abs}
use Rattle.std.specs.Int.{div_ceil}
use Rattle.std.specs.List.{flat_map, range_with_len, enumerate_from}
use Rattle.samr_box.specs.declared.vector.Axis.{Axis}
use Rattle.samr_box.specs.declared.vector.Axis.TheVariants.{I, J, K}
use Rattle.samr_box.specs.declared.vector.IVec.{IVec}
use Rattle.samr_box.specs.Vector.{at, alike, AtMost, plus, minus, times, least}
use Rattle.samr_box.specs.Corners.{Corners, span}
use Rattle.samr_level.specs.Refs.{Owned}
use Rattle.samr_level.specs.RefOrders.{ref_cmp, in_order}
use Rattle.samr_level.specs.Regions.{Area, boxes_of}

-- how many blocks lie along an axis of a box; the last one may be smaller
abbrev pub blocks_along : Axis → IVec → Corners → ℕ
blocks_along axis block p = div_ceil (span axis p) (unsigned_abs (at axis block))

-- a place of a box, counted in blocks, and the block there
abbrev pub place : ℕ → ℕ → ℕ → IVec
place x y z = record { k = pos z; j = pos y; i = pos x }

unfoldable pub block_at : IVec → Corners → IVec → Corners
block_at block p n = record {
  lo = plus p.lo (times n block);
  hi = least p.hi (plus (plus p.lo (times n block)) (minus block (alike (pos 1))));
}

-- the blocks of a box, `i` fastest, then `j`, then `k`
unfoldable pub blocks_of : IVec → Corners → List Corners
blocks_of block p =
    flat_map (λ z. flat_map (λ y. map (λ x. block_at block p (place x y z))
    (range_with_len 0 (blocks_along I block p))) (range_with_len 0 (blocks_along J block p))) (range_with_len 0 (blocks_along K block p))

abbrev pub blocks_in : IVec → List Corners → List Corners
blocks_in block boxes = flat_map (λ p. blocks_of block p) boxes

-- the cells of a block, and not too many blocks to number
pub record IsBlocking (block : IVec) (boxes : List Corners) : Type 0 where
  pub low : AtMost (alike (pos 1)) block
  pub high : AtMost block (alike (pos 1073741824))
  pub few : length (blocks_in block boxes) < 2 ^ 48

-- block b of `count` belongs to rank floor(b * ranks / count)
abbrev pub owner_of : ℕ → ℕ → ℕ → ℕ
owner_of count ranks b = b * ranks / count

unfoldable pub with_owners : ℕ → List Corners → List Owned
with_owners ranks bs = map (λ b. record { owner = owner_of (length bs) ranks b.0; bx = b.1 }) (enumerate_from 0 bs)

-- level 0 on this many ranks
unfoldable pub level0 : Area → IVec → ℕ → List Owned
level0 area block ranks = in_order ref_cmp (with_owners ranks (blocks_in block (boxes_of area)))
