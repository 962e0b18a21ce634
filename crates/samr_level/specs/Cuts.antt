-- One box of the domain cut into blocks, and which of its blocks a search has to look at.
use Rattle.std.specs.Prelude.{ℕ, ◌+◌, ◌*◌, ◌^◌, ◌<◌, ◌≤◌, pos, negsuc, ◌+ℤ◌, ◌-ℤ◌, ◌*ℤ◌, ◌<ℤ◌, List, [], ◌∷◌, filter}
use Rattle.std.specs.List.{flat_map, range_with_len}
use Rattle.samr_box.specs.declared.vector.Axis.{Axis}
use Rattle.samr_box.specs.declared.vector.Axis.TheVariants.{I, J, K}
use Rattle.samr_box.specs.declared.vector.IVec.{IVec}
use Rattle.samr_box.specs.Vector.{at, alike, AtMost, Between, minus, times}
use Rattle.samr_box.specs.Corners.{Corners, IsBox, meets}
use Rattle.samr_level.specs.Refs.{Owned}
use Rattle.samr_level.specs.Blocks.{blocks_along, place, block_at, owner_of}

-- a box, the cells of a block, the number of its first block among all blocks, how many these are, and the ranks
pub record Cut : Type 0 where
  pub bx : Corners
  pub block : IVec
  pub first : ℕ
  pub count : ℕ
  pub ranks : ℕ

abbrev pub along : Axis → Cut → ℕ
along axis c = blocks_along axis c.block c.bx

pub record IsCut (c : Cut) : Type 0 where
  pub bx : IsBox c.bx
  pub block : Between (alike (pos 1)) c.block (alike (pos 1073741824))
  pub numbers : c.first + along I c * along J c * along K c ≤ c.count
  pub few : c.count < 2 ^ 48

-- the block at a place, with its owner
abbrev pub number_at : Cut → ℕ → ℕ → ℕ → ℕ
number_at c x y z = c.first + ((z * along J c + y) * along I c + x)

unfoldable pub member_at : Cut → ℕ → ℕ → ℕ → Owned
member_at c x y z = record { owner = owner_of c.count c.ranks (number_at c x y z); bx = block_at c.block c.bx (place x y z) }

-- the members that meet a window: of a row, of a plane, of the whole box
unfoldable pub row_in : Corners → Cut → ℕ → ℕ → List Owned
row_in w c y z = flat_map (λ x. filter (λ b. meets w b.bx) (member_at c x y z ∷ [])) (range_with_len 0 (along I c))

unfoldable pub plane_in : Corners → Cut → ℕ → List Owned
plane_in w c z = flat_map (λ y. row_in w c y z) (range_with_len 0 (along J c))

unfoldable pub members_in : Corners → Cut → List Owned
members_in w c = flat_map (λ z. plane_in w c z) (range_with_len 0 (along K c))

-- a window's coordinates lie between -2^40 and 2^40
pub record IsWindow (w : Corners) : Type 0 where
  pub lo : Between (alike (negsuc 1099511627775)) w.lo (alike (pos 1099511627776))
  pub hi : Between (alike (negsuc 1099511627775)) w.hi (alike (pos 1099511627776))

-- the blocks that may meet a window on an axis: those before `first` end below it, those from `end` on begin above it
pub record IsSpan (axis : Axis) (block : IVec) (bx w : Corners) (first end : ℕ) : Type 0 where
  pub order : first ≤ end
  pub within : end ≤ blocks_along axis block bx
  pub below : (n : ℕ) → n < first → ((at axis bx.lo +ℤ (pos n *ℤ at axis block)) +ℤ (at axis block -ℤ pos 1)) <ℤ at axis w.lo
  pub above : (n : ℕ) → end ≤ n → n < blocks_along axis block bx → at axis w.hi <ℤ (at axis bx.lo +ℤ (pos n *ℤ at axis block))

-- a place at which a box has a block
pub record IsPlace (block : IVec) (bx : Corners) (n : IVec) : Type 0 where
  pub low : AtMost (alike (pos 0)) n
  pub high : AtMost (times n block) (minus bx.hi bx.lo)
