-- The balance of all ranks keeps what a cut shares out; and no rank ever has more than all.
use Rattle.std.proofs.Common.{◌≡◌, ℕ, zero, suc, ◌+◌, ◌-◌, ◌*◌, ◌<◌, ◌≤◌, refl, sym, ap, ◌∙◌, inl, inr, arith, nat_lt}
use Rattle.std.proofs.lemmas.Bool.{cond-true, cond-false, lt-ltb, le-ltb, cases_lt}
use Rattle.std.specs.Prelude.{Bool, true, false, cond, List, [], ◌++◌, Some, None}
use Rattle.samr_bits.specs.Sums.{sum_below}
use Rattle.samr_bits.proofs.Sums.{sum_ext}
use Rattle.samr_tree.specs.Tree.{first_child, second_child}
use Rattle.samr_load.specs.Pieces.{Placed, piece_cmp, size_of, total, load}
use Rattle.samr_load.specs.Taking.{Parted}
use Rattle.samr_load.specs.Ascent.{Balancing, Climb, up_of, up, stayed}
use Rattle.samr_load.specs.Descent.{Fall, given, down, got, pieces_of}
use Rattle.samr_load.proofs.Totals.{Each, total-append, total-sorted, each_append}
use Rattle.samr_load.proofs.Flows.{IsFlow, flow, no_more}
use Rattle.samr_load.proofs.Parting.{IsSolid, SharesOut, parted_total}
use Rattle.samr_load.proofs.Shapes.{solid_inherits, cells_shared}
use Rattle.samr_load.proofs.Takes.{parted_load}
use Rattle.samr_load.proofs.Ascents.{up_outside, up_hand, up_wanted, up_is, of_first, of_second, up_each, stayed_each}
use Rattle.samr_load.proofs.Descents.{given_total, given_each, given_nothing, down_step, got_root, got_left, got_right, got_each}

-- a number of the ranks that there are
abbrev pub only : ℕ → (ℕ → ℕ) → ℕ → ℕ
only ranks f rank = cond (nat_lt rank ranks) (f rank) 0

pub only_inside : (ranks : ℕ) (f : ℕ → ℕ) (rank : ℕ) → rank < ranks → only ranks f rank ≡ f rank
only_inside ranks f rank inside = cond-true (nat_lt rank ranks) (f rank) 0 (lt-ltb rank ranks inside)

pub only_outside : (ranks : ℕ) (f : ℕ → ℕ) (rank : ℕ) → ranks ≤ rank → only ranks f rank ≡ 0
only_outside ranks f rank out = cond-false (nat_lt rank ranks) (f rank) 0 (le-ltb rank ranks out)

pub sum_but_first : (f k : ℕ → ℕ) (more : ℕ) → f 0 ≡ k 0 + more → ((r : ℕ) → f (suc r) ≡ k (suc r)) → (n : ℕ) → 0 < n
    → sum_below f n ≡ sum_below k n + more
sum_but_first f k more first rest zero some = absurd (omega (arith, some))
sum_but_first f k more first rest (suc zero) some = omega (arith, first)
sum_but_first f k more first rest (suc (suc n)) some = omega (arith, sum_but_first f k more first rest (suc n) (omega arith), rest n)

module _ (b : Balancing) (some : 0 < b.smallest) (own : (rank : ℕ) → rank < b.ranks → Each IsSolid (b.own rank)) where
  abbrev solid_up : (rank : ℕ) → rank < b.ranks → Each IsSolid (up b rank).hand
  solid_up rank inside = (up_each b IsSolid solid_inherits (λ q h. h) some own (Some rank) inside).0

  module _ (m : Placed → ℕ) (shares : SharesOut m) where
    -- up the tree
    pub up_flow : IsFlow b.ranks
        (λ r. total m (b.own r))
        (λ r. total m (up b r).kept)
        (only b.ranks (λ r. total m (up b r).given))
        (λ r. total m (up b r).hand)
    up_flow = record {
      in_all = λ r inside.
          let n = b.ranks in
          let hand = ap (total m) (up_hand b r inside) in
          let all = total-append m (b.own r ++ (up_of b (first_child n r)).given) (up_of b (second_child n r)).given in
          let front = total-append m (b.own r) (up_of b (first_child n r)).given in
          let first = of_first b (λ (c : Climb). total m c.given) refl r in
          let second = of_second b (λ (c : Climb). total m c.given) refl r in
          omega (arith, hand, all, front, first, second);
      out_all = λ r inside.
          let want = load (up b r).hand - (up b r).wanted in
          let both = parted_total m shares b.smallest some (up b r).hand want (solid_up r inside) in
          let kept = ap (λ (c : Climb). total m c.kept) (up_is b r inside) in
          let given = ap (λ (c : Climb). total m c.given) (up_is b r inside) in
          let here = only_inside b.ranks (λ r. total m (up b r).given) r inside in
          omega (arith, both, kept, given, here);
      beyond = λ r out. only_outside b.ranks (λ r. total m (up b r).given) r out;
    }

    pub hand_within : (rank : ℕ) → rank < b.ranks → total m (up b rank).hand ≤ sum_below (λ r. total m (b.own r)) b.ranks
    hand_within rank inside =
        no_more b.ranks (λ r. total m (b.own r)) (λ r. total m (up b r).kept) (only b.ranks (λ r. total m (up b r).given)) (λ r. total m (up b r).hand)
        up_flow rank inside

    pub all_stayed : sum_below (λ r. total m (stayed b r)) b.ranks ≡ sum_below (λ r. total m (b.own r)) b.ranks
    all_stayed = elim (cases_lt 0 b.ranks) [
      | inl there ↦
          let root = up_flow.out_all 0 there in
          let rest = sum_but_first (λ r. total m (stayed b r)) (λ r. total m (up b r).kept) (only b.ranks (λ r. total m (up b r).given) 0)
          root (λ r. refl) b.ranks there in
          let all = flow b.ranks (λ r. total m (b.own r)) (λ r. total m (up b r).kept) (only b.ranks (λ r. total m (up b r).given)) (λ r. total m (up b r).hand) up_flow in
          omega (arith, rest, all)
      | inr none ↦
          let e : b.ranks ≡ 0 = omega arith in
          ap (sum_below (λ r. total m (stayed b r))) e ∙ sym (ap (sum_below (λ r. total m (b.own r))) e)
    ]

    -- down the tree
    abbrev hand_down : ℕ → List Placed
    hand_down r = stayed b r ++ got b r

    solid_down : (rank : ℕ) → rank < b.ranks → Each IsSolid (hand_down rank)
    solid_down rank inside =
        each_append IsSolid (stayed b rank) (got b rank)
        (stayed_each b IsSolid solid_inherits (λ q h. h) some own rank inside)
        (got_each b IsSolid solid_inherits (λ q h. h) some own rank inside)

    -- a child that there is not needs nothing, and is given nothing
    gift : (child : ℕ) (t : Bool) (hand part : List Placed) → nat_lt child b.ranks ≡ t
        → part ≡ (given b.smallest hand (up_of b (cond t (Some child) None)).need).taken → got b child ≡ part
        → total m part ≡ only b.ranks (λ r. total m (got b r)) child
    gift child true hand part e is same = sym (ap (total m) same) ∙ sym (cond-true (nat_lt child b.ranks) (total m (got b child)) 0 e)
    gift child false hand part e is same =
        let need : (up_of b None).need ≡ 0 = ap (λ (c : Climb). c.need) (up_outside b) in
        let none : part ≡ [] = is ∙ ap (λ (p : Parted). p.taken) (given_nothing b.smallest hand (up_of b None).need need) in
        ap (total m) none ∙ sym (cond-false (nat_lt child b.ranks) (total m (got b child)) 0 e)

    pub down_flow : IsFlow b.ranks
        (λ r. total m (down b r).left)
        (λ r. total m (stayed b r))
        (only b.ranks (λ r. total m (got b r)))
        (λ r. total m (hand_down r))
    down_flow = record {
      in_all = λ r inside.
          let n = b.ranks in
          let hand = hand_down r in
          let full = solid_down r inside in
          let x = (up_of b (first_child n r)).need in
          let y = (up_of b (second_child n r)).need in
          let rest = (given b.smallest hand x).rest in
          let rest_full = (given_each IsSolid solid_inherits (λ q h. h) b.smallest some hand x full).1 in
          let one = given_total m shares b.smallest some hand x full in
          let two = given_total m shares b.smallest some rest y rest_full in
          let step = down_step b r in
          let first_is = ap (λ (f : Fall). f.first) step in
          let second_is = ap (λ (f : Fall). f.second) step in
          let left_is = ap (λ (f : Fall). total m f.left) step in
          let first = gift (2 * r + 1) (nat_lt (2 * r + 1) n) hand (down b r).first refl first_is (got_left b r) in
          let second = gift (2 * r + 2) (nat_lt (2 * r + 2) n) rest (down b r).second refl second_is (got_right b r) in
          let first_total = ap (total m) first_is in
          let second_total = ap (total m) second_is in
          omega (arith, one, two, left_is, first, second, first_total, second_total);
      out_all = λ r inside.
          let both = total-append m (stayed b r) (got b r) in
          let here = only_inside b.ranks (λ r. total m (got b r)) r inside in
          omega (arith, both, here);
      beyond = λ r out. only_outside b.ranks (λ r. total m (got b r)) r out;
    }

    root_got : only b.ranks (λ r. total m (got b r)) 0 ≡ 0
    root_got = elim (cases_lt 0 b.ranks) [
      | inl there ↦ only_inside b.ranks (λ r. total m (got b r)) 0 there ∙ ap (total m) (got_root b)
      | inr none ↦ only_outside b.ranks (λ r. total m (got b r)) 0 none
    ]

    all_left : sum_below (λ r. total m (down b r).left) b.ranks ≡ sum_below (λ r. total m (b.own r)) b.ranks
    all_left =
        let all = flow b.ranks (λ r. total m (down b r).left) (λ r. total m (stayed b r)) (only b.ranks (λ r. total m (got b r))) (λ r. total m (hand_down r)) down_flow in
        omega (arith, all, root_got, all_stayed)

    pub down_within : (rank : ℕ) → rank < b.ranks → total m (stayed b rank ++ got b rank) ≤ sum_below (λ r. total m (b.own r)) b.ranks
    down_within rank inside =
        let most = no_more b.ranks (λ r. total m (down b r).left) (λ r. total m (stayed b r)) (only b.ranks (λ r. total m (got b r))) (λ r. total m (hand_down r)) down_flow rank inside in
        omega (arith, most, all_left)

    -- all ranks end with what they had together
    pub balance_keeps : sum_below (λ r. total m (pieces_of b r)) b.ranks ≡ sum_below (λ r. total m (b.own r)) b.ranks
    balance_keeps =
        sum_ext (λ r. total m (pieces_of b r)) (λ r. total m (down b r).left) b.ranks (λ r inside. total-sorted m piece_cmp (down b r).left) ∙ all_left

  -- what the ranks want, up the tree
  pub need_is : (rank : ℕ) → rank < b.ranks → (up b rank).need ≡ (up b rank).wanted - load (up b rank).hand
  need_is rank inside = ap (λ (c : Climb). c.need) (up_is b rank inside)

  pub wanted_flow : IsFlow b.ranks
      b.quota
      (λ r. (up b r).wanted - (up b r).need)
      (only b.ranks (λ r. (up b r).need))
      (λ r. (up b r).wanted)
  wanted_flow = record {
    in_all = λ r inside.
        let wanted = up_wanted b r inside in
        let first = of_first b (λ (c : Climb). c.need) refl r in
        let second = of_second b (λ (c : Climb). c.need) refl r in
        omega (arith, wanted, first, second);
    out_all = λ r inside.
        let here = only_inside b.ranks (λ r. (up b r).need) r inside in
        omega (arith, here, need_is r inside);
    beyond = λ r out. only_outside b.ranks (λ r. (up b r).need) r out;
  }

  pub wanted_within : (rank : ℕ) → rank < b.ranks → (up b rank).wanted ≤ sum_below b.quota b.ranks
  wanted_within rank inside =
      no_more b.ranks b.quota (λ r. (up b r).wanted - (up b r).need) (only b.ranks (λ r. (up b r).need)) (λ r. (up b r).wanted) wanted_flow rank inside

  -- from what it keeps, a rank finds the same need again
  pub need_again : (rank : ℕ) → rank < b.ranks → (up b rank).wanted - load (up b rank).kept ≡ (up b rank).need
  need_again rank inside =
      let want = load (up b rank).hand - (up b rank).wanted in
      let kept = ap (λ (c : Climb). load c.kept) (up_is b rank inside) in
      let both = parted_total size_of cells_shared b.smallest some (up b rank).hand want (solid_up rank inside) in
      omega (arith, kept, both, parted_load b.smallest some (up b rank).hand want, need_is rank inside)
