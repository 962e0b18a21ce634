-- What each rank has before a round of the way up the tree, and before one of the way down.
use Rattle.std.specs.Prelude.{◌≡◌, ℕ, ◌+◌, ◌<◌, ◌^◌, ℤ, pos, List, ◌++◌, nat_lt, if◌then◌else◌}
use Rattle.samr_box.specs.Vector.{AtMost}
use Rattle.samr_box.specs.Lists.{Member}
use Rattle.samr_bits.specs.Sums.{sum_below}
use Rattle.samr_tree.specs.Tree.{first_child, second_child, depth, bottom}
use Rattle.samr_load.specs.Pieces.{Placed, load}
use Rattle.samr_load.specs.Ascent.{Balancing, up_of, up, stayed}
use Rattle.samr_load.specs.Descent.{down, got}
use Rattle.samr_balance.specs.declared.hands.Needs.{Needs}
use Rattle.samr_balance.specs.declared.hands.Hand.{Hand}

-- the balance of all ranks, and a round of it
pub record Round : Type 0 where
  pub balancing : Balancing
  pub round : ℕ

abbrev pub next : Round → Round
next w = record { balancing = w.balancing; round = w.round + 1 }

abbrev pub hand_of : List Placed → Needs → Hand
hand_of pieces needs = record { pieces = pieces; needs = needs }

-- what a rank's children need of it, and what it knows of that before they tell it
abbrev pub needs_of : Balancing → ℕ → Needs
needs_of b rank =
    record { first = (up_of b (first_child b.ranks rank)).need; second = (up_of b (second_child b.ranks rank)).need }

abbrev pub no_needs : Needs
no_needs = record { first = 0; second = 0 }

-- going up, the ranks of one depth after another tell their parents, from the bottom: a rank has its own pieces until its
-- children have told it, and what it keeps once it has told its parent
unfoldable pub going_up : Round → ℕ → Hand
going_up w rank =
    let b = w.balancing in
    if nat_lt (depth rank + w.round) (bottom b.ranks) then hand_of (b.own rank) no_needs
    else (if nat_lt (bottom b.ranks) (depth rank + w.round) then hand_of (stayed b rank) (needs_of b rank) else hand_of (up b rank).hand (needs_of b rank))

-- going down, the ranks of one depth after another tell their children, from the root: a rank has what it kept until its parent
-- has told it, and what is left once it has told its children
unfoldable pub going_down : Round → ℕ → Hand
going_down w rank =
    let b = w.balancing in
    if nat_lt w.round (depth rank) then hand_of (stayed b rank) (needs_of b rank)
    else (if nat_lt (depth rank) w.round then hand_of (down b rank).left (needs_of b rank) else hand_of (stayed b rank ++ got b rank) (needs_of b rank))

-- pieces that are not empty, and fewer cells than fit, also where all want their quotas
pub record IsFair (b : Balancing) : Type 0 where
  pub some : 0 < b.smallest
  pub not_empty : (rank : ℕ) → rank < b.ranks → (q : Placed) → Member q (b.own rank) → AtMost q.bx.lo q.bx.hi
  pub cells : sum_below (λ rank. load (b.own rank)) b.ranks < 2 ^ 63
  pub quotas : sum_below b.quota b.ranks < 2 ^ 63

-- a rank's part of a round, in which it has this hand
pub record IsPart (rank ranks round : ℕ) (pieces : List Placed) (needs : Needs) (quota : ℕ) (smallest : ℤ) (hand : Hand) (w : Round) (r : ℕ) : Type 0 where
  pub same_rank : rank ≡ r
  pub same_ranks : ranks ≡ w.balancing.ranks
  pub within : r < w.balancing.ranks
  pub same_round : round ≡ w.round
  pub same_pieces : pieces ≡ hand.pieces
  pub same_needs : needs ≡ hand.needs
  pub same_quota : quota ≡ w.balancing.quota r
  pub same_smallest : smallest ≡ pos w.balancing.smallest
  pub fair : IsFair w.balancing
