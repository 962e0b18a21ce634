-- The hand of a rank in the rounds of the balance of a pass.
use Rattle.std.proofs.Common.{◌≡◌, ℕ, ◌+◌, ◌*◌, ◌-◌, ◌<◌, ◌≤◌, ◌^◌, List, ◌++◌, length, map, refl, sym, ap, subst, ◌∙◌, arith, nat_lt, nat_eq, inl, inr, append-nil, to_z, of_z}
use Rattle.std.proofs.lemmas.Bool.{cases_lt, cases_eq, ne_eqb}
use Rattle.std.proofs.lemmas.Int.{ints, to_z-of_z}
use Rattle.std.proofs.lemmas.List.FromFn.{length-map-range_with_len}
use Rattle.std.specs.Prelude.{Bool, true, false, ◌&&◌, ◌||◌, ℤ, pos, ◌≤ℤ◌, unsigned_abs, FitsSigned}
use Rattle.std.specs.Int.{w64}
use Rattle.samr_box.specs.Corners.{Corners}
use Rattle.samr_level.specs.declared.parts.Move.{Move}
use Rattle.samr_level.specs.Refs.{Owned}
use Rattle.samr_level.specs.Levels.{own}
use Rattle.samr_load.specs.Balanced.{cells_in, quota_of}
use Rattle.samr_load.specs.Laws.{boxes_of}
use Rattle.samr_load.specs.Pieces.{Placed, whole, load}
use Rattle.samr_load.specs.Ascent.{Balancing, up, stayed}
use Rattle.samr_load.specs.Descent.{got}
use Rattle.samr_load.proofs.Descents.{got_root}
use Rattle.samr_tree.specs.Tree.{depth, bottom, tells_up, told_down}
use Rattle.samr_tree.specs.TreeSum.{goes_up}
use Rattle.samr_tree.proofs.TreeLemmas.{depth-le, depth_up}
use Rattle.samr_balance.specs.declared.hands.Needs.{Needs}
use Rattle.samr_balance.specs.declared.hands.Hand.{Hand}
use Rattle.samr_balance.specs.Home.{balancing_of, IsHome}
use Rattle.samr_balance.specs.Rounds.{Round, hand_of, no_needs, needs_of, going_up, going_down, IsFair, IsPart}
use Rattle.samr_balance.specs.WayDown.{needs_any, visits_down}
use Rattle.samr_balance.proofs.OnAllLaws.{direct, starts}
use Rattle.samr_balance.proofs.RoundHands.{up_past, down_before, down_at, down_past, stayed_fits, wanted_fits, wanted_sum, need_again_is}
use Rattle.samr_balance.proofs.Unvisited.{stays_up, stays_down}
use Rattle.samr_balance.proofs.WayDownStage.{told_depth}
use Rattle.samr_modify.specs.Entries.{moves_of}
use Rattle.samr_nest.specs.CutLevels.{news_of}
use Rattle.samr_mesh.proofs.Grounding.{within_of}
use Rattle.samr_mesh.specs.Passes.{cuts_of, cut_level}
use Rattle.samr_wholes.proofs.PassStages.{are_homes, is_fair}
use Rattle.samr_msg.specs.Runs.{Setting}
use Rattle.samr_msg.specs.Places.{AtPass, AtRound, next_round}
use Rattle.samr_msg.specs.PassStops.{hands_at, loads_of, ups_left, downs_left}
use Rattle.samr_regrid.specs.Standing.{IsSeat, IsPassOf}
use Rattle.samr_balancing.proofs.ShareLaws.{own_is}
use Rattle.samr_balancing.specs.Rounds.{homes_at, HasHand, climbed_hand, last_hand}

loads_length : (w : AtPass) → length (loads_of w) ≡ w.pass.ranks
unfolding loads_of
loads_length w = length-map-range_with_len (λ rank. cells_in (own rank (cut_level w.at.setting.problem w.pass))) 0 w.pass.ranks

-- how many rounds there are
pub ups_are : (w : AtRound) → ups_left w ≡ (bottom w.at.pass.ranks + 1) - w.round
ups_are w = ap (λ n. (bottom n + 1) - w.round) (loads_length w.at)

pub downs_are : (w : AtRound) → downs_left w ≡ bottom w.at.pass.ranks - w.round
downs_are w = ap (λ n. bottom n - w.round) (loads_length w.at)

-- a rank that does not go up visits no round of the way up
no_visit : (a b c d : Bool) → (a || (b || (c || d))) ≡ false → (a || (b || c)) ≡ false
no_visit true b c d e = cc
no_visit false true c d e = cc
no_visit false false true d e = cc
no_visit false false false d e = refl

module _ (w : AtPass) (r : ℕ) (run : Setting) (rank step : ℕ) (seat : IsSeat run rank step w.at r) (of : IsPassOf w) where
  pub inside : r < w.pass.ranks
  inside = omega (arith, seat.within, of.same_ranks)

  pub few : w.pass.ranks < 2 ^ 16
  few = omega (arith, seat.few, of.same_ranks)

  pub low : bottom w.pass.ranks < 2 ^ 16
  low = omega (arith, depth-le (w.pass.ranks - 1), few)

  pub fair : IsFair (balancing_of (homes_at w))
  fair = is_fair w.at.setting.problem w.pass of.can

  some_planes : pos 1 ≤ℤ w.at.setting.problem.smallest
  some_planes = (within_of (pos 1) (pos 64) w.at.setting.problem.smallest seat.problem.smallest).0

  -- the fewest planes of a part, handed on
  pub planes : (x : ℤ) → x ≡ w.at.setting.problem.smallest → to_z w64 (of_z w64 x) ≡ w.at.setting.problem.smallest
  planes x e =
      let within = within_of (pos 1) (pos 64) w.at.setting.problem.smallest seat.problem.smallest in
      let fits : FitsSigned w64 x = omega (arith, ints, e, within.0, within.1) in
      to_z-of_z w64 x fits ∙ e

  -- the stage of a rank
  pub is_part : (own ranks round n share total : ℕ) (pieces : List Placed) (needs : Needs) (smallest : ℤ) (hand whole : Hand)
      → own ≡ r → ranks ≡ w.pass.ranks → round ≡ n → share ≡ quota_of total ranks own → total ≡ cells_in (cut_level w.at.setting.problem w.pass)
      → pieces ≡ hand.pieces → needs ≡ hand.needs → hand ≡ whole → smallest ≡ w.at.setting.problem.smallest
      → IsPart own ranks round pieces needs share smallest whole (record { balancing = balancing_of (homes_at w); round = n }) r
  is_part own ranks round n share total pieces needs smallest hand whole same_rank same_ranks same_round is all p q h s = record {
    same_rank = same_rank;
    same_ranks = same_ranks;
    within = inside;
    same_round = same_round;
    same_pieces = p ∙ ap (λ (v : Hand). v.pieces) h;
    same_needs = q ∙ ap (λ (v : Hand). v.needs) h;
    same_quota = is ∙ ap (λ k. quota_of k ranks own) all ∙ ap (λ k. quota_of (cells_in (cut_level w.at.setting.problem w.pass)) k own) same_ranks
        ∙ ap (λ k. quota_of (cells_in (cut_level w.at.setting.problem w.pass)) w.pass.ranks k) same_rank;
    same_smallest = s ∙ direct w.at.setting.problem.smallest some_planes;
    fair = fair;
  }

  -- from the way up to the way down
  pub turns : going_up (record { balancing = balancing_of (homes_at w); round = bottom w.pass.ranks + 1 }) r ≡ going_down (record { balancing = balancing_of (homes_at w); round = 0 }) r
  turns =
      let b = balancing_of (homes_at w) in
      let last : Round = record { balancing = b; round = bottom w.pass.ranks + 1 } in
      let top : Round = record { balancing = b; round = 0 } in
      elim (cases_lt 0 (depth r)) [
        | inl below ↦ up_past last r (omega arith) ∙ sym (down_before top r below)
        | inr root_depth ↦
            let root : r ≡ 0 = elim (cases_lt 0 r) [
              | inl above ↦ let d = depth_up r above in absurd (omega (arith, d, root_depth))
              | inr none ↦ omega (arith, none)
            ] in
            let nothing = ap (got b) root ∙ got_root b in
            up_past last r (omega arith)
            ∙ ap (λ (l : List Placed). hand_of l (needs_of b r)) (sym (append-nil (stayed b r)) ∙ ap (λ (l : List Placed). stayed b r ++ l) (sym nothing))
            ∙ sym (down_at top r (omega (arith, root_depth)))
      ]

  -- the hand at first
  pub first_is : (cuts : List Move) (hand : Hand) → cuts ≡ moves_of r (cuts_of w.at.setting.problem w.pass) → hand ≡ hand_of (map whole (news_of cuts)) no_needs
      → hand ≡ going_up (record { balancing = balancing_of (homes_at w); round = 0 }) r
  first_is cuts hand same is =
      let p = w.at.setting.problem in
      let homes = are_homes p w.pass of.can in
      is ∙ ap (λ (l : List Owned). hand_of (map whole l) no_needs) (ap news_of same ∙ sym (own_is p w.pass of.can r))
      ∙ starts w.pass.ranks (unsigned_abs p.smallest) (cut_level p w.pass) of.can.some homes.some homes.owned homes.cells r inside

  -- the end of the balance
  pub is_home : (own_rank ranks : ℕ) (pieces : List Placed) (hand : Hand) (boxes : List Corners) (owned : List Owned) (cuts : List Move)
      → own_rank ≡ r → ranks ≡ w.pass.ranks → pieces ≡ hand.pieces → hand ≡ last_hand w r → boxes ≡ boxes_of owned → owned ≡ news_of cuts
      → cuts ≡ moves_of r (cuts_of w.at.setting.problem w.pass) → IsHome own_rank ranks pieces boxes (homes_at w) r
  is_home own_rank ranks pieces hand boxes owned cuts same_rank same_ranks e h f g m = record {
    same_rank = same_rank;
    same_ranks = same_ranks;
    within = inside;
    same_hand = e ∙ ap (λ (v : Hand). v.pieces) h;
    same_cuts = f ∙ ap boxes_of (g ∙ ap news_of m ∙ sym (own_is w.at.setting.problem w.pass of.can r));
    homes = are_homes w.at.setting.problem w.pass of.can;
  }

-- rounds of the way up
module _ (w : AtRound) (r : ℕ) (run : Setting) (rank step : ℕ) (seat : IsSeat run rank step w.at.at r) (of : IsPassOf w.at) (round : ℕ) (hand : Hand) where
  pub up_skipped : (next_is : ℕ) → HasHand going_up (bottom w.at.pass.ranks + 1) round hand w r → goes_up w.at.pass.ranks w.round r ≡ false → next_is ≡ round + 1
      → HasHand going_up (bottom w.at.pass.ranks + 2) next_is hand (next_round w) r
  up_skipped next_is has quiet e = record {
    same_round = e ∙ ap (λ n. n + 1) has.same_round;
    below = omega (arith, has.below);
    same_hand = has.same_hand ∙ sym (stays_up (hands_at w) r (inside w.at r run rank step seat of) (no_visit (tells_up w.at.pass.ranks w.round r) (tells_up w.at.pass.ranks w.round (2 * r + 1)) (tells_up w.at.pass.ranks w.round (2 * r + 2)) (nat_eq w.at.pass.ranks 1) quiet));
  }

  pub up_on : (height : ℕ) → height ≡ bottom w.at.pass.ranks → round ≤ height → HasHand going_up (bottom w.at.pass.ranks + 2) round hand w r
      → (0 < ups_left w) × HasHand going_up (bottom w.at.pass.ranks + 1) round hand w r
  up_on height e on has =
      (omega (arith, ups_are w, e, on, has.same_round), record { same_round = has.same_round; below = omega (arith, e, on, has.same_round); same_hand = has.same_hand })

  pub up_over : (height : ℕ) → height ≡ bottom w.at.pass.ranks → height < round → HasHand going_up (bottom w.at.pass.ranks + 2) round hand w r
      → (ups_left w ≡ 0) × (hand ≡ climbed_hand w.at r)
  up_over height e over has =
      let last : w.round ≡ bottom w.at.pass.ranks + 1 = omega (arith, e, over, has.same_round, has.below) in
      (omega (arith, ups_are w, last), has.same_hand ∙ ap (λ n. going_up (record { balancing = balancing_of (homes_at w.at); round = n }) r) last)

  -- rounds of the way down
  pub down_skipped : (next_is : ℕ) → HasHand going_down (bottom w.at.pass.ranks) round hand w r → visits_down (hands_at w) r ≡ false → next_is ≡ round + 1
      → HasHand going_down (bottom w.at.pass.ranks + 1) next_is hand (next_round w) r
  down_skipped next_is has quiet e = record {
    same_round = e ∙ ap (λ n. n + 1) has.same_round;
    below = omega (arith, has.below);
    same_hand = has.same_hand ∙ sym (stays_down (hands_at w) r (inside w.at r run rank step seat of) quiet);
  }

  pub down_on : (height : ℕ) → height ≡ bottom w.at.pass.ranks → round < height → HasHand going_down (bottom w.at.pass.ranks + 1) round hand w r
      → (0 < downs_left w) × HasHand going_down (bottom w.at.pass.ranks) round hand w r
  down_on height e on has =
      (omega (arith, downs_are w, e, on, has.same_round), record { same_round = has.same_round; below = omega (arith, e, on, has.same_round); same_hand = has.same_hand })

  pub down_over : (height : ℕ) → height ≡ bottom w.at.pass.ranks → height ≤ round → HasHand going_down (bottom w.at.pass.ranks + 1) round hand w r
      → (downs_left w ≡ 0) × (hand ≡ last_hand w.at r)
  down_over height e over has =
      let last : w.round ≡ bottom w.at.pass.ranks = omega (arith, e, over, has.same_round, has.below) in
      (omega (arith, downs_are w, last), has.same_hand ∙ ap (λ n. going_down (record { balancing = balancing_of (homes_at w.at); round = n }) r) last)

  module _ (has : HasHand going_down (bottom w.at.pass.ranks) round hand w r) where
    b : Balancing
    b = balancing_of (homes_at w.at)

    is_inside : r < w.at.pass.ranks
    is_inside = inside w.at r run rank step seat of

    -- the hand of a rank in the round in which its parent tells it
    told_hand : told_down w.at.pass.ranks w.round r ≡ true → hand ≡ hand_of (stayed (balancing_of (homes_at w.at)) r) (needs_of (balancing_of (homes_at w.at)) r)
    told_hand told =
        let deep = told_depth w.at.pass.ranks w.round r told in
        has.same_hand ∙ down_before (hands_at w) r (omega (arith, deep))

    pub load_small : told_down w.at.pass.ranks w.round r ≡ true → load hand.pieces < 2 ^ 63
    unfolding b
    load_small told =
        subst (λ (v : Hand). load v.pieces < 2 ^ 63) (sym (told_hand told)) (stayed_fits b (fair w.at r run rank step seat of) r is_inside)

    pub wanted_small : told_down w.at.pass.ranks w.round r ≡ true → (share : ℕ) → share ≡ (balancing_of (homes_at w.at)).quota r → share + hand.needs.first + hand.needs.second < 2 ^ 63
    unfolding b
    wanted_small told share e =
        let whole = wanted_fits b (fair w.at r run rank step seat of) r is_inside in
        let sum = wanted_sum b (fair w.at r run rank step seat of) r is_inside in
        let all : b.quota r + (needs_of b r).first + (needs_of b r).second < 2 ^ 63 = omega (arith, whole, sum) in
        subst (λ (v : Hand). share + v.needs.first + v.needs.second < 2 ^ 63) (sym (told_hand told))
        (subst (λ k. k + (needs_of b r).first + (needs_of b r).second < 2 ^ 63) (sym e) all)

    -- whether it visits the round
    told_need : told_down w.at.pass.ranks w.round r ≡ true → (share : ℕ) → share ≡ (balancing_of (homes_at w.at)).quota r
        → nat_lt 0 ((share + hand.needs.first + hand.needs.second) - load hand.pieces) ≡ visits_down (hands_at w) r
    unfolding b
    told_need told share e =
        let deep = told_depth w.at.pass.ranks w.round r told in
        let root : 0 < r = elim (cases_lt 0 r) [ inl above ↦ above | inr none ↦ absurd (omega (arith, deep, depth-le r, none)) ] in
        let need = need_again_is b (fair w.at r run rank step seat of) r is_inside root in
        let here : nat_eq (depth r) w.round ≡ false = ne_eqb _ _ (λ same. omega (arith, same, deep)) in
        ap (λ (v : Hand). nat_lt 0 ((share + v.needs.first + v.needs.second) - load v.pieces)) (told_hand told)
        ∙ ap (λ k. nat_lt 0 ((k + (needs_of b r).first + (needs_of b r).second) - load (stayed b r))) e
        ∙ ap (λ k. nat_lt 0 k) need
        ∙ sym (ap (λ (t : Bool). (t && needs_any (needs_of b r)) || (told_down w.at.pass.ranks w.round r && nat_lt 0 (up b r).need)) here
        ∙ ap (λ (t : Bool). t && nat_lt 0 (up b r).need) told)

    pub told_visits : told_down w.at.pass.ranks w.round r ≡ true → (share : ℕ) (pieces : List Placed) (t : Bool) → share ≡ (balancing_of (homes_at w.at)).quota r → pieces ≡ hand.pieces
        → t ≡ nat_lt 0 ((share + hand.needs.first + hand.needs.second) - load pieces) → t ≡ visits_down (hands_at w) r
    told_visits told share pieces t e same is =
        is ∙ ap (λ (l : List Placed). nat_lt 0 ((share + hand.needs.first + hand.needs.second) - load l)) same ∙ told_need told share e

    pub other_visits : told_down w.at.pass.ranks w.round r ≡ false → (t : Bool) → t ≡ (nat_eq (depth r) w.round && needs_any hand.needs) → t ≡ visits_down (hands_at w) r
    unfolding b
    other_visits quiet t e =
        e ∙ ap (λ (n : Needs). nat_eq (depth r) w.round && needs_any n) needs_are
        ∙ sym (or_false _)
        ∙ ap (λ (u : Bool). (nat_eq (depth r) w.round && needs_any (needs_of b r)) || (u && nat_lt 0 (up b r).need)) (sym quiet)
      where
        or_false : (u : Bool) → (u || false) ≡ u
        or_false true = refl
        or_false false = refl

        needs_are : hand.needs ≡ needs_of (balancing_of (homes_at w.at)) r
        needs_are = elim (cases_lt w.round (depth r)) [
          | inl before ↦ ap (λ (v : Hand). v.needs) (has.same_hand ∙ down_before (hands_at w) r before)
          | inr after ↦ elim (cases_eq (depth r) w.round) [
            | inl here ↦ ap (λ (v : Hand). v.needs) (has.same_hand ∙ down_at (hands_at w) r here)
            | inr past ↦ ap (λ (v : Hand). v.needs) (has.same_hand ∙ down_past (hands_at w) r (omega (arith, after, past)))
          ]
        ]

-- the turn of a rank, and its share, from numbers that are the same
pub told_now : (w : AtRound) (r : ℕ) (own ranks round : ℕ) {t : Bool} → t ≡ told_down ranks round own → own ≡ r → ranks ≡ w.at.pass.ranks → round ≡ w.round → told_down w.at.pass.ranks w.round r ≡ t
told_now w r own ranks round e same_rank same_ranks same_round =
    sym (ap (λ n. told_down n round own) same_ranks ∙ ap (λ n. told_down w.at.pass.ranks n own) same_round ∙ ap (λ n. told_down w.at.pass.ranks w.round n) same_rank) ∙ sym e

pub share_is : (w : AtPass) (r : ℕ) (share own ranks total : ℕ) → share ≡ quota_of total ranks own → total ≡ cells_in (cut_level w.at.setting.problem w.pass) → own ≡ r → ranks ≡ w.pass.ranks
    → share ≡ (balancing_of (homes_at w)).quota r
share_is w r share own ranks total e all same_rank same_ranks =
    e ∙ ap (λ n. quota_of n ranks own) all ∙ ap (λ n. quota_of (cells_in (cut_level w.at.setting.problem w.pass)) n own) same_ranks
    ∙ ap (λ n. quota_of (cells_in (cut_level w.at.setting.problem w.pass)) w.pass.ranks n) same_rank
