-- What a rank has before a round, by its depth.
use Rattle.std.proofs.Common.{◌≡◌, ℕ, zero, suc, ◌+◌, ◌-◌, ◌*◌, ◌<◌, ◌≤◌, ◌^◌, List, [], ◌++◌, refl, sym, ap, ◌∙◌, arith, nat_lt, append-nil}
use Rattle.std.specs.Prelude.{Bool, false, cond, Some, None}
use Rattle.std.proofs.lemmas.Bool.{cond-true, cond-false, lt-ltb, le-ltb}
use Rattle.samr_tree.specs.Tree.{second_child, depth, bottom}
use Rattle.samr_tree.proofs.TreeLemmas.{depth_rising}
use Rattle.samr_load.specs.Pieces.{Placed, size_of, load}
use Rattle.samr_load.specs.Ascent.{Balancing, Climb, up_of, up, stayed}
use Rattle.samr_load.specs.Descent.{down, got}
use Rattle.samr_load.proofs.Totals.{total-append}
use Rattle.samr_load.proofs.Shapes.{cells_shared}
use Rattle.samr_load.proofs.Ascents.{up_outside, up_hand, up_wanted}
use Rattle.samr_load.proofs.Keeping.{hand_within, down_within, wanted_within, need_again}
use Rattle.samr_balance.specs.declared.hands.Needs.{Needs}
use Rattle.samr_balance.specs.declared.hands.Hand.{Hand}
use Rattle.samr_balance.specs.Rounds.{Round, hand_of, needs_of, no_needs, going_up, going_down, IsFair}

module _ (w : Round) (rank : ℕ) where
  abbrev own_hand : Hand
  own_hand = hand_of (w.balancing.own rank) no_needs

  abbrev whole_hand : Hand
  whole_hand = hand_of (up w.balancing rank).hand (needs_of w.balancing rank)

  abbrev kept_hand : Hand
  kept_hand = hand_of (stayed w.balancing rank) (needs_of w.balancing rank)

  pub up_before : depth rank + w.round < bottom w.balancing.ranks → going_up w rank ≡ own_hand
  unfolding going_up
  up_before h = cond-true {A = Hand} (nat_lt (depth rank + w.round) (bottom w.balancing.ranks)) own_hand _ (lt-ltb _ _ h)

  pub up_at : depth rank + w.round ≡ bottom w.balancing.ranks → going_up w rank ≡ whole_hand
  unfolding going_up
  up_at h =
      cond-false {A = Hand} (nat_lt (depth rank + w.round) (bottom w.balancing.ranks)) own_hand _ (le-ltb _ _ (omega (arith, h)))
      ∙ cond-false {A = Hand} (nat_lt (bottom w.balancing.ranks) (depth rank + w.round)) kept_hand whole_hand (le-ltb _ _ (omega (arith, h)))

  pub up_past : bottom w.balancing.ranks < depth rank + w.round → going_up w rank ≡ kept_hand
  unfolding going_up
  up_past h =
      cond-false {A = Hand} (nat_lt (depth rank + w.round) (bottom w.balancing.ranks)) own_hand _ (le-ltb _ _ (omega (arith, h)))
      ∙ cond-true {A = Hand} (nat_lt (bottom w.balancing.ranks) (depth rank + w.round)) kept_hand whole_hand (lt-ltb _ _ h)

  abbrev given_hand : Hand
  given_hand = hand_of (stayed w.balancing rank ++ got w.balancing rank) (needs_of w.balancing rank)

  abbrev left_hand : Hand
  left_hand = hand_of (down w.balancing rank).left (needs_of w.balancing rank)

  pub down_before : w.round < depth rank → going_down w rank ≡ kept_hand
  unfolding going_down
  down_before h = cond-true {A = Hand} (nat_lt w.round (depth rank)) kept_hand _ (lt-ltb _ _ h)

  pub down_at : depth rank ≡ w.round → going_down w rank ≡ given_hand
  unfolding going_down
  down_at h =
      cond-false {A = Hand} (nat_lt w.round (depth rank)) kept_hand _ (le-ltb _ _ (omega (arith, h)))
      ∙ cond-false {A = Hand} (nat_lt (depth rank) w.round) left_hand given_hand (le-ltb _ _ (omega (arith, h)))

  pub down_past : depth rank < w.round → going_down w rank ≡ left_hand
  unfolding going_down
  down_past h =
      cond-false {A = Hand} (nat_lt w.round (depth rank)) kept_hand _ (le-ltb _ _ (omega (arith, h)))
      ∙ cond-true {A = Hand} (nat_lt (depth rank) w.round) left_hand given_hand (lt-ltb _ _ h)

-- a rank is no deeper than the last one
pub within_bottom : (ranks rank : ℕ) → rank < ranks → depth rank ≤ bottom ranks
within_bottom ranks rank inside = depth_rising rank (ranks - 1) (omega (arith, inside))

pub stayed_root : (b : Balancing) (rank : ℕ) → rank ≡ 0 → stayed b rank ≡ (up b rank).hand
stayed_root b zero root = refl
stayed_root b (suc rank) root = absurd (omega (arith, root))

pub stayed_above : (b : Balancing) (rank : ℕ) → 0 < rank → stayed b rank ≡ (up b rank).kept
stayed_above b zero above = absurd (omega (arith, above))
stayed_above b (suc rank) above = refl

-- a rank without children has its own pieces, and knows of no needs
pub childless : (b : Balancing) (rank : ℕ) → rank < b.ranks → nat_lt (2 * rank + 1) b.ranks ≡ false → nat_lt (2 * rank + 2) b.ranks ≡ false
    → hand_of (up b rank).hand (needs_of b rank) ≡ hand_of (b.own rank) no_needs
childless b rank inside first second =
    let one = ap (λ (t : Bool). up_of b (cond t (Some (2 * rank + 1)) None)) first ∙ up_outside b in
    let two = ap (λ (t : Bool). up_of b (cond t (Some (2 * rank + 2)) None)) second ∙ up_outside b in
    let mine = b.own rank in
    let pieces : (up b rank).hand ≡ mine =
    up_hand b rank inside
    ∙ ap (λ (c : Climb). mine ++ c.given ++ (up_of b (second_child b.ranks rank)).given) one
    ∙ ap (λ (c : Climb). mine ++ [] ++ c.given) two
    ∙ append-nil (mine ++ []) ∙ append-nil mine in
    let needs : needs_of b rank ≡ no_needs =
    ap (λ (c : Climb). let n : Needs = record { first = c.need; second = (up_of b (second_child b.ranks rank)).need } in n) one
    ∙ ap (λ (c : Climb). let n : Needs = record { first = 0; second = c.need } in n) two in
    ap (λ (l : List Placed). hand_of l (needs_of b rank)) pieces ∙ ap (λ (n : Needs). hand_of mine n) needs

-- no rank has or wants more than fits
module _ (b : Balancing) (fair : IsFair b) (rank : ℕ) (inside : rank < b.ranks) where
  pub hand_fits : load (up b rank).hand < 2 ^ 63
  hand_fits = omega (arith, hand_within b fair.some fair.not_empty size_of cells_shared rank inside, fair.cells)

  pub down_fits : load (stayed b rank ++ got b rank) < 2 ^ 63
  down_fits = omega (arith, down_within b fair.some fair.not_empty size_of cells_shared rank inside, fair.cells)

  pub stayed_fits : load (stayed b rank) < 2 ^ 63
  stayed_fits = omega (arith, total-append size_of (stayed b rank) (got b rank), down_fits)

  pub wanted_fits : (up b rank).wanted < 2 ^ 63
  wanted_fits = omega (arith, wanted_within b fair.some fair.not_empty rank inside, fair.quotas)

  pub wanted_sum : (up b rank).wanted ≡ b.quota rank + (needs_of b rank).first + (needs_of b rank).second
  wanted_sum = up_wanted b rank inside

  pub need_again_is : 0 < rank → (b.quota rank + (needs_of b rank).first + (needs_of b rank).second) - load (stayed b rank) ≡ (up b rank).need
  need_again_is above =
      ap (λ n. n - load (stayed b rank)) (sym wanted_sum)
      ∙ ap (λ l. (up b rank).wanted - load l) (stayed_above b rank above)
      ∙ need_again b fair.some fair.not_empty rank inside
