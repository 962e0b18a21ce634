-- All ranks through all rounds of a balance.
use Rattle.std.proofs.Common.{◌≡◌, ℕ, zero, suc, ◌+◌, ◌*◌, ◌<◌, ◌^◌, List, [], ◌∷◌, ◌++◌, refl, sym, ap, ◌∙◌, subst, arith, inl, inr, length, get_or, take, map, slice_get, append-nil, to_z, of_z}
use Rattle.std.specs.Prelude.{Some, All, ℤ, pos, ◌≤ℤ◌, unsigned_abs, FitsSigned}
use Rattle.std.specs.Int.{w64}
use Rattle.std.specs.List.{range_with_len}
use Rattle.std.proofs.lemmas.Int.{ints, to_z-of_z}
use Rattle.std.proofs.lemmas.Bool.{cases_lt}
use Rattle.std.proofs.lemmas.List.{take_more}
use Rattle.std.proofs.lemmas.List.FromFn.{fill_by_all}
use Rattle.std.proofs.lemmas.Option.{slice_get-get_or}
use Rattle.samr_box.specs.Corners.{Corners}
use Rattle.samr_box.specs.Vector.{AtMost}
use Rattle.samr_box.proofs.Members.{member_of_All}
use Rattle.samr_level.specs.Refs.{Owned}
use Rattle.samr_level.specs.Levels.{own}
use Rattle.samr_stage.specs.Exchange.{AreResults}
use Rattle.samr_tree.specs.Tree.{depth, bottom}
use Rattle.samr_tree.proofs.TreeLemmas.{depth_up}
use Rattle.samr_tree.proofs.OnAllLemmas.{each_more}
use Rattle.samr_load.specs.Pieces.{Placed, whole}
use Rattle.samr_load.specs.Ascent.{Balancing, stayed}
use Rattle.samr_load.specs.Descent.{got}
use Rattle.samr_load.specs.Balanced.{quota_of, cells_in}
use Rattle.samr_load.specs.Laws.{AreOwned, boxes_of}
use Rattle.samr_load.proofs.QuotaSums.{quotas_all}
use Rattle.samr_load.proofs.Descents.{got_root}
use Rattle.samr_load.proofs.Wholes.{own_solid, own_load}
use Rattle.samr_balance.specs.declared.hands.Needs.{Needs}
use Rattle.samr_balance.specs.declared.hands.Hand.{Hand}
use Rattle.samr_balance.specs.declared.homed.Homed.{Homed}
use Rattle.samr_balance.specs.Rounds.{Round, hand_of, needs_of, no_needs, going_up, going_down, IsFair, IsPart}
use Rattle.samr_balance.specs.WayUp.{after_up}
use Rattle.samr_balance.specs.WayDown.{after_down}
use Rattle.samr_balance.specs.Home.{Homes, balancing_of, homed_of, AreHomes, IsHome}
use Rattle.samr_balance.specs.Laws.{IsHomed}
use Rattle.samr_balance.specs.OnAll.{homes_of, round_at, AreHands}
use Rattle.samr_balance.proofs.RoundHands.{childless, up_before, up_at, up_past, down_before, down_at, within_bottom}
use Rattle.samr_balance.proofs.HomeStage.{no_child, owned_again}

pub list_again : (boxes : List Owned) (i : ℕ) (o : Owned) (before after : List Owned) → i < length boxes → o ≡ get_or boxes i o
    → before ≡ take i boxes → after ≡ before ++ o ∷ [] → after ≡ take (i + 1) boxes
list_again boxes i o before after h is so_far pushed =
    pushed ∙ ap (λ l. l ++ o ∷ []) so_far ∙ ap (λ (v : Owned). take i boxes ++ v ∷ []) is ∙ sym (take_more boxes i o h)

pub owned_from : (ranks : ℕ) (boxes : List Owned) → All (λ o. o.owner < ranks) boxes → All (λ o. AtMost o.bx.lo o.bx.hi) boxes → AreOwned ranks boxes
owned_from ranks boxes owners solid o m =
    (member_of_All (λ o. AtMost o.bx.lo o.bx.hi) o boxes solid m, member_of_All (λ o. o.owner < ranks) o boxes owners m)

-- a number that is handed on
pub handed : (x : ℤ) → FitsSigned w64 x → pos 1 ≤ℤ x → to_z w64 (of_z w64 x) ≡ pos (unsigned_abs x)
handed x fits some = to_z-of_z w64 x fits ∙ grind (arith, ints)

pub direct : (x : ℤ) → pos 1 ≤ℤ x → x ≡ pos (unsigned_abs x)
direct x some = grind (arith, ints)

got_within : {X : Type 0} (xs : List X) (k : ℕ) (x : X) → slice_get xs k ≡ Some x → k < length xs
got_within [] k x is = cc
got_within (y ∷ xs) zero x is = omega arith
got_within (y ∷ xs) (suc k) x is = omega (arith, got_within xs k x is)

pub some_handed : (x : ℤ) → FitsSigned w64 x → pos 1 ≤ℤ x → pos 1 ≤ℤ to_z w64 (of_z w64 x)
some_handed x fits some = subst (λ (v : ℤ). pos 1 ≤ℤ v) (sym (to_z-of_z w64 x fits)) some

-- a rank's hand among all
pub hand_read : (hand : ℕ → Hand) (ranks : ℕ) (hands : List Hand) → AreHands hand ranks hands → (k rank : ℕ) (d : Hand) → k ≡ rank → rank < ranks → d ≡ get_or hands k d → d ≡ hand rank
hand_read hand ranks hands are k rank d same within is =
    is ∙ are.each rank (get_or hands k d) (slice_get-get_or hands rank d (omega (arith, are.same_ranks, within)) ∙ ap (λ i. Some (get_or hands i d)) (sym same))

pub hands_more : (hand : ℕ → Hand) (n : ℕ) (before after : List Hand) (h : Hand) → AreHands hand n before → h ≡ hand n → after ≡ before ++ h ∷ [] → length after ≡ n + 1 → AreHands hand (n + 1) after
hands_more hand n before after h are is pushed len = record {
  same_ranks = len;
  each = each_more (λ k v. v ≡ hand k) before after n h are.same_ranks are.each is pushed;
}

module _ (ranks s : ℕ) (boxes : List Owned) (ranked : 0 < ranks) (some : 0 < s) (owned : AreOwned ranks boxes) (few : cells_in boxes < 2 ^ 63) where
  abbrev homes : Homes
  homes = homes_of ranks s boxes

  abbrev b : Balancing
  b = balancing_of homes

  pub are_homes : AreHomes homes
  are_homes = record { some = some; owned = owned; cells = few }

  pub fair : IsFair b
  fair = record {
    some = some;
    not_empty = own_solid (quota_of (cells_in boxes) ranks) ranks s boxes some (λ o m. (owned o m).0);
    cells = omega (arith, own_load ranks s boxes, few);
    quotas = omega (arith, quotas_all (cells_in boxes) ranks ranked, few);
  }

  -- a rank's stage
  pub part : (hand : Hand) (round rank : ℕ) → rank < ranks → (pieces : List Placed) → pieces ≡ hand.pieces → (needs : Needs) → needs ≡ hand.needs
      → (quota : ℕ) → quota ≡ quota_of (cells_in boxes) ranks rank → (smallest : ℤ) → smallest ≡ pos s → (whole : Hand) → hand ≡ whole
      → IsPart rank ranks round pieces needs quota smallest whole (round_at ranks s boxes round) rank
  part hand round rank inside pieces e needs f quota g smallest i whole h = record {
    same_rank = refl;
    same_ranks = refl;
    within = inside;
    same_round = refl;
    same_pieces = e ∙ ap (λ (v : Hand). v.pieces) h;
    same_needs = f ∙ ap (λ (v : Hand). v.needs) h;
    same_quota = g;
    same_smallest = i;
    fair = fair;
  }

  -- at first each rank has its own boxes
  pub starts : (rank : ℕ) → rank < ranks → hand_of (map whole (own rank boxes)) no_needs ≡ going_up (round_at ranks s boxes 0) rank
  starts rank inside = elim (cases_lt (depth rank + 0) (bottom ranks)) [
    | inl before ↦ sym (up_before (round_at ranks s boxes 0) rank before)
    | inr rest ↦
        let last : depth rank ≡ bottom ranks = omega (arith, rest, within_bottom ranks rank inside) in
        let one = no_child ranks rank (2 * rank + 1) last (omega arith) (omega arith) in
        let two = no_child ranks rank (2 * rank + 2) last (omega arith) (omega arith) in
        sym (up_at (round_at ranks s boxes 0) rank (omega (arith, last)) ∙ childless b rank inside one two)
  ]

  pub first_is : (rank : ℕ) → rank < ranks → (cuts : List Corners) → cuts ≡ boxes_of (own rank boxes) → (pieces : List Placed)
      → pieces ≡ map (λ c. record { bx = c; origin = record { owner = rank; bx = c } }) cuts → hand_of pieces no_needs ≡ going_up (round_at ranks s boxes 0) rank
  first_is rank inside cuts e pieces f =
      ap (λ (l : List Placed). hand_of l no_needs)
      (f ∙ ap (map (λ (c : Corners). let q : Placed = record { bx = c; origin = record { owner = rank; bx = c } } in q)) e
      ∙ again (own rank boxes) ∙ ap (map whole) (owned_again rank boxes))
      ∙ starts rank inside
    where
      again : (l : List Owned) → map (λ (c : Corners). let q : Placed = record { bx = c; origin = record { owner = rank; bx = c } } in q) (boxes_of l)
          ≡ map whole (map (λ (c : Corners). let o : Owned = record { owner = rank; bx = c } in o) (boxes_of l))
      again [] = refl
      again (o ∷ l) = ap (λ (k : List Placed). (let q : Placed = record { bx = o.bx; origin = record { owner = rank; bx = o.bx } } in q) ∷ k) (again l)

  -- from the way up to the way down
  turns : (rank : ℕ) → rank < ranks → going_up (round_at ranks s boxes (bottom ranks + 1)) rank ≡ going_down (round_at ranks s boxes 0) rank
  turns rank inside = elim (cases_lt 0 (depth rank)) [
    | inl below ↦
        up_past (round_at ranks s boxes (bottom ranks + 1)) rank (omega arith) ∙ sym (down_before (round_at ranks s boxes 0) rank below)
    | inr top ↦
        let root : rank ≡ 0 = elim (cases_lt 0 rank) [
          | inl above ↦ let d = depth_up rank above in absurd (omega (arith, d, top))
          | inr zero_rank ↦ omega (arith, zero_rank)
        ] in
        let none = ap (got b) root ∙ got_root b in
        up_past (round_at ranks s boxes (bottom ranks + 1)) rank (omega arith)
        ∙ ap (λ (l : List Placed). hand_of l (needs_of b rank)) (sym (append-nil (stayed b rank)) ∙ ap (λ (l : List Placed). stayed b rank ++ l) (sym none))
        ∙ sym (down_at (round_at ranks s boxes 0) rank (omega (arith, top)))
  ]

  pub turned : (hands : List Hand) → AreHands (going_up (round_at ranks s boxes (bottom ranks + 1))) ranks hands → AreHands (going_down (round_at ranks s boxes 0)) ranks hands
  turned hands are = record {
    same_ranks = are.same_ranks;
    each = λ rank out is. are.each rank out is ∙ turns rank (omega (arith, got_within hands rank out is, are.same_ranks));
  }

  pub is_home : (hand : Hand) (rank : ℕ) → rank < ranks → (pieces : List Placed) → pieces ≡ hand.pieces → (cuts : List Corners) → cuts ≡ boxes_of (own rank boxes)
      → hand ≡ going_down (round_at ranks s boxes (bottom ranks)) rank → IsHome rank ranks pieces cuts homes rank
  is_home hand rank inside pieces e cuts f h = record {
    same_rank = refl;
    same_ranks = refl;
    within = inside;
    same_hand = e ∙ ap (λ (v : Hand). v.pieces) h;
    same_cuts = f;
    homes = are_homes;
  }

-- what the ranks have after a round
pub after_round_up : (w : Round) (ranks : ℕ) (outs : List Hand) → length outs ≡ ranks → AreResults (λ w rank out. out ≡ after_up w rank) w outs
    → AreHands (λ rank. after_up w rank) ranks outs
after_round_up w ranks outs len results = record { same_ranks = len; each = results }

pub after_round_down : (w : Round) (ranks : ℕ) (outs : List Hand) → length outs ≡ ranks → AreResults (λ w rank out. out ≡ after_down w rank) w outs
    → AreHands (λ rank. after_down w rank) ranks outs
after_round_down w ranks outs len results = record { same_ranks = len; each = results }

pub all_home : (w : Homes) (outs : List Homed) → length outs ≡ w.ranks → AreResults IsHomed w outs → outs ≡ map (homed_of w) (range_with_len 0 w.ranks)
all_home w outs len results =
    fill_by_all (λ rank. homed_of w rank) outs w.ranks (homed_of w 0) len
    (λ k below. (results k (get_or outs k (homed_of w 0)) (slice_get-get_or outs k (homed_of w 0) (omega (arith, len, below)))).is)
