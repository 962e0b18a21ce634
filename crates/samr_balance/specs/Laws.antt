-- What a balance keeps: the pieces of a box have its cells, and no rank has much more than its share.
use Rattle.std.specs.Prelude.{◌≡◌, ◌≢◌, ◌↔◌, is_some, IsTrue, false, ℕ, ◌+◌, ◌*◌, ◌<◌, ◌≤◌, List}
use Rattle.samr_box.specs.declared.vector.IVec.{IVec}
use Rattle.samr_box.specs.Vector.{AtMost}
use Rattle.samr_box.specs.Corners.{Holds, longest_of}
use Rattle.samr_box.specs.Lists.{Member}
use Rattle.samr_boxlist.specs.Covers.{cover}
use Rattle.samr_bits.specs.Sums.{sum_below}
use Rattle.samr_level.specs.Refs.{Owned}
use Rattle.samr_level.specs.declared.parts.Move.{Move}
use Rattle.samr_load.specs.Pieces.{Placed, load}
use Rattle.samr_load.specs.Taking.{across}
use Rattle.samr_load.specs.Balanced.{cells_in}
use Rattle.samr_load.specs.Laws.{boxes_of, same_as, grain}
use Rattle.samr_balance.specs.declared.homed.Homed.{Homed}
use Rattle.samr_balance.specs.Home.{Homes, pieces_in, homed_of, AreHomes}
use Rattle.samr_balance.specs.HomeRow.{home_row}
use Rattle.samr_balance.specs.Rounds.{Round, next, going_up, going_down}
use Rattle.samr_balance.specs.WayUp.{visits_up}
use Rattle.samr_balance.specs.WayDown.{visits_down}

-- what becomes of a box: new boxes that are not empty, on the ranks, and lie in it. Each cell lies in as many of them as in the
-- boxes that are this one: in a level in one, where the box has it
pub record IsKept (w : Homes) (old : Owned) (news : List Owned) : Type 0 where
  pub not_empty : (n : Owned) → Member n news → AtMost n.bx.lo n.bx.hi
  pub owners : (n : Owned) → Member n news → n.owner < w.ranks
  pub inside : (n : Owned) (x : IVec) → Member n news → Holds n.bx x → Holds old.bx x
  pub cells : (x : IVec) → cover x (boxes_of news) ≡ cover x (boxes_of (same_as old w.boxes))

-- a rank's part of the result. If the quotas are all cells, and no box has more cells than `most` in a plane across its longest
-- axis, the rank has at most three grains more than its quota
pub record IsHomed (w : Homes) (rank : ℕ) (out : Homed) : Type 0 where
  pub is : out ≡ homed_of w rank
  pub kept : (m : Move) → Member m out.mapping.entries → IsKept w m.old m.news
  pub bound : (most : ℕ) → ((o : Owned) → Member o w.boxes → across (longest_of o.bx) o.bx ≤ most) → sum_below w.quota w.ranks ≡ cells_in w.boxes
      → load out.pieces ≤ w.quota rank + 3 * grain w.smallest most

-- a rank tells another one something exactly where it has a piece of a box of that one
abbrev pub LettersGoHome : Type 0
LettersGoHome =
    (w : Homes) (from to : ℕ) → AreHomes w → from < w.ranks → to < w.ranks → from ≢ to
    → IsTrue (is_some (home_row w from to)) ↔ ((q : Placed) × Member q (pieces_in w from) × (q.origin.owner ≡ to))

-- a rank's hand stays as it is in a round that it does not visit
abbrev pub HandsStayUp : Type 0
HandsStayUp = (w : Round) (rank : ℕ) → rank < w.balancing.ranks → visits_up w rank ≡ false → going_up (next w) rank ≡ going_up w rank

abbrev pub HandsStayDown : Type 0
HandsStayDown = (w : Round) (rank : ℕ) → rank < w.balancing.ranks → visits_down w rank ≡ false → going_down (next w) rank ≡ going_down w rank
