-- Boxes with their owners, and the edges between them.
use Rattle.std.specs.Prelude.{ℕ}
use Rattle.samr_box.specs.declared.vector.IVec.{IVec}
use Rattle.samr_box.specs.Corners.{Corners}
use Rattle.samr_box.specs.Space.{opposite}

-- a box and the rank that owns it
pub record Owned : Type 0 where
  pub owner : ℕ
  pub bx : Corners

-- a base box, and a head box of which an image, by the shift, lies near it
pub record Link : Type 0 where
  pub base : Owned
  pub head : Owned
  pub shift : IVec

abbrev pub link : Owned → Owned → IVec → Link
link base head shift = record { base = base; head = head; shift = shift }

-- the same edge seen from its head
abbrev pub turned : Link → Link
turned e = link e.head e.base (opposite e.shift)
