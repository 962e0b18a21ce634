-- A rank's stage against its part of a round of the way down.
use Rattle.std.proofs.Common.{◌≡◌, ◌≢◌, ℕ, ◌+◌, ◌-◌, ◌*◌, ◌/◌, ◌<◌, ◌^◌, List, [], ◌∷◌, ◌++◌, refl, sym, ap, ◌∙◌, arith, nat_lt, nat_eq, inl, inr, sum_by, append-nil}
use Rattle.std.specs.Prelude.{Bool, cond, true, false, ◌&&◌, Option, Some, None, ℤ, unsigned_abs}
use Rattle.std.specs.List.{flat_map}
use Rattle.std.specs.Option.{option_map_or}
use Rattle.std.proofs.lemmas.Bool.{cond-true, cond-false, lt-ltb, le-ltb, cases_lt, cases_eq, eq-eqb, ne_eqb, ltb-true, and_parts, and_from, and_left, and_right, eqb-true}
use Rattle.samr_stage.specs.declared.stage.Held.{Held}
use Rattle.samr_stage.specs.Row.{told, heard, column}
use Rattle.samr_tree.specs.Tree.{first_child, second_child, depth, told_down}
use Rattle.samr_tree.proofs.TreeLemmas.{depth_root, depth_up}
use Rattle.samr_load.specs.Pieces.{Placed, load}
use Rattle.samr_load.specs.Ascent.{up_of, up, stayed}
use Rattle.samr_load.specs.Descent.{Fall, fall, down, got}
use Rattle.samr_load.proofs.Totals.{Each}
use Rattle.samr_load.proofs.Parting.{IsSolid}
use Rattle.samr_load.proofs.Shapes.{some_cells}
use Rattle.samr_load.proofs.Descents.{got_none, got_left, got_right}
use Rattle.samr_load.proofs.PlainSteps.{falls}
use Rattle.samr_balance.specs.declared.hands.Needs.{Needs}
use Rattle.samr_balance.specs.declared.hands.Hand.{Hand}
use Rattle.samr_balance.specs.Rounds.{Round, next, hand_of, needs_of, going_down}
use Rattle.samr_balance.specs.WayDown.{is_given, down_row, gave_down, after_down, IsDown, HasGivenDown}
use Rattle.samr_balance.specs.StageLaws.{given_inside}
use Rattle.samr_balance.proofs.FamilyLines.{of_child, along_children, along_nobody, along_parent, count_parent}
use Rattle.samr_balance.proofs.RoundHands.{down_before, down_at, down_past, down_fits, stayed_fits, wanted_fits, wanted_sum, need_again_is}

pub told_depth : (ranks round rank : ℕ) → told_down ranks round rank ≡ true → depth rank ≡ round + 1
told_depth ranks round rank turn =
    eqb-true (depth rank) (round + 1) (and_parts (nat_lt rank ranks) _ (and_parts (nat_lt 0 rank) _ turn).1).1

pub depth_told : (ranks round rank : ℕ) → rank < ranks → depth rank ≡ round + 1 → told_down ranks round rank ≡ true
depth_told ranks round rank inside deep =
    let above : 0 < rank = elim (cases_lt 0 rank) [
      | inl above ↦ above
      | inr root ↦ let at_root : rank ≡ 0 = omega (arith, root) in let d = ap depth at_root in absurd (omega (arith, d, depth_root, deep))
    ] in
    let one : nat_lt 0 rank ≡ true = lt-ltb 0 rank above in
    let two : nat_lt rank ranks ≡ true = lt-ltb rank ranks inside in
    let three : nat_eq (depth rank) (round + 1) ≡ true = eq-eqb _ _ deep in rw (one, two, three) refl

pub depth_not_told : (ranks round rank : ℕ) → depth rank ≢ round + 1 → told_down ranks round rank ≡ false
depth_not_told ranks round rank other =
    and_right (nat_lt 0 rank) _ (and_right (nat_lt rank ranks) _ (ne_eqb _ _ other))

-- the letter to a child that needs so much, if there is one
abbrev letter_to : ℕ → List Placed → Option ℕ → List (ℕ × List Placed)
letter_to need pieces child = option_map_or (λ c. cond (nat_lt 0 need) ((c, pieces) ∷ []) []) child []

-- pieces that are not empty have cells
pub no_cells : (l : List Placed) → Each IsSolid l → load l ≡ 0 → l ≡ []
no_cells [] solid none = refl
no_cells (q ∷ qs) solid none = let some = some_cells q.bx (solid q (inl refl)) in absurd (omega (arith, some, none))

module _ (w : Round) where
  abbrev turn : ℕ → Bool
  turn rank = is_given w rank

  not_given : (rank : ℕ) → told_down w.balancing.ranks w.round rank ≡ false → turn rank ≡ false
  not_given rank e = and_left (told_down w.balancing.ranks w.round rank) (nat_lt 0 (up w.balancing rank).need) e

  -- what a rank has does not change where its parent does not tell it
  pub stays : (r : ℕ) → depth r ≢ w.round + 1 → gave_down w r ≡ after_down w r
  stays r quiet = elim (cases_eq (depth r) w.round) [
    | inl now ↦ cond-true {A = Hand} (nat_eq (depth r) w.round) (going_down (next w) r) (going_down w r) (eq-eqb _ _ now)
    | inr other ↦
        cond-false {A = Hand} (nat_eq (depth r) w.round) (going_down (next w) r) (going_down w r) (ne_eqb _ _ other)
        ∙ elim (cases_lt w.round (depth r)) [
          | inl before ↦ down_before w r before ∙ sym (down_before (next w) r (omega (arith, before, quiet)))
          | inr rest ↦ down_past w r (omega (arith, rest, other)) ∙ sym (down_past (next w) r (omega (arith, rest)))
        ]
  ]

  -- what a rank has until its parent tells it
  pub before_told : (r : ℕ) → depth r ≡ w.round + 1 → gave_down w r ≡ hand_of (stayed w.balancing r) (needs_of w.balancing r)
  before_told r deep =
      cond-false {A = Hand} (nat_eq (depth r) w.round) (going_down (next w) r) (going_down w r) (ne_eqb _ _ (λ e. omega (arith, e, deep)))
      ∙ down_before w r (omega (arith, deep))

  pub heard_parent : (r : ℕ) → turn r ≡ true → heard (column (down_row w) r) w.balancing.ranks
      ≡ (let h : Held (List Placed) = record { sender = (r - 1) / 2; body = got w.balancing r } in h) ∷ []
  unfolding down_row
  heard_parent r on =
      along_parent (λ from body. let h : Held (List Placed) = record { sender = from; body = body } in h) w.balancing.ranks turn (got w.balancing) (given_inside w) r on

  pub heard_nobody : (r : ℕ) → turn r ≡ false → heard (column (down_row w) r) w.balancing.ranks ≡ []
  unfolding down_row
  heard_nobody r off =
      along_nobody (λ from body. let h : Held (List Placed) = record { sender = from; body = body } in h) w.balancing.ranks turn (got w.balancing) (given_inside w) r off

  pub count_heard : (r : ℕ) (t : Bool) → turn r ≡ t → sum_by (λ (held : Held (List Placed)). 1) (heard (column (down_row w) r) w.balancing.ranks) ≡ cond {A = ℕ} t 1 0
  unfolding down_row
  count_heard r t e =
      count_parent (λ from body. let h : Held (List Placed) = record { sender = from; body = body } in h) w.balancing.ranks turn (got w.balancing) (given_inside w) r t e

  abbrev to_child : ℕ → List (ℕ × List Placed)
  to_child k = of_child (λ to body. let p : ℕ × List Placed = (to, body) in p) w.balancing.ranks turn (got w.balancing) (given_inside w) k

  told_two : (r : ℕ) → told (down_row w r) w.balancing.ranks ≡ to_child (2 * r + 1) ++ to_child (2 * r + 2)
  unfolding down_row
  told_two r =
      along_children (λ to body. let p : ℕ × List Placed = (to, body) in p) w.balancing.ranks turn (got w.balancing) (given_inside w) r

  quiet_child : (r k : ℕ) → 0 < k → (k - 1) / 2 ≡ r → depth r ≢ w.round → turn k ≡ false
  quiet_child r k above parent other =
      let d = depth_up k above in
      let same = ap depth parent in
      not_given k (depth_not_told w.balancing.ranks w.round k (λ e. other (omega (arith, d, same, e))))

  pub told_nothing : (r : ℕ) → depth r ≢ w.round → told (down_row w r) w.balancing.ranks ≡ []
  told_nothing r other =
      told_two r
      ∙ ap (λ (q : Bool). cond q ((2 * r + 1, got w.balancing (2 * r + 1)) ∷ []) [] ++ to_child (2 * r + 2)) (quiet_child r (2 * r + 1) (omega arith) (omega arith) other)
      ∙ ap (λ (q : Bool). cond q ((2 * r + 2, got w.balancing (2 * r + 2)) ∷ []) []) (quiet_child r (2 * r + 2) (omega arith) (omega arith) other)

  -- the letter to a child, if there is one and it needs something
  child_letter : (r k : ℕ) (t : Bool) → nat_lt k w.balancing.ranks ≡ t → 0 < k → (k - 1) / 2 ≡ r → depth r ≡ w.round
      → (need : ℕ) (pieces : List Placed) → need ≡ (up_of w.balancing (cond t (Some k) None)).need → pieces ≡ got w.balancing k
      → letter_to need pieces (cond t (Some k) None) ≡ to_child k
  child_letter r k true e above parent deep need pieces same is =
      let d = depth_up k above in
      let at = ap depth parent in
      let told_now = depth_told w.balancing.ranks w.round k (ltb-true k w.balancing.ranks e) (omega (arith, d, at, deep)) in
      ap (λ (n : ℕ). cond (nat_lt 0 n) ((k, pieces) ∷ []) []) same
      ∙ ap (λ (l : List Placed). cond (nat_lt 0 (up w.balancing k).need) ((k, l) ∷ []) []) is
      ∙ sym (ap (λ (q : Bool). cond (q && nat_lt 0 (up w.balancing k).need) ((k, got w.balancing k) ∷ []) []) told_now)
  child_letter r k false e above parent deep need pieces same is =
      sym (ap (λ (q : Bool). cond q ((k, got w.balancing k) ∷ []) []) (not_given k (and_right (nat_lt 0 k) _ (and_left (nat_lt k w.balancing.ranks) _ e))))

  pub told_children : (r : ℕ) → depth r ≡ w.round → (x y : ℕ) (first second : List Placed) → x ≡ (needs_of w.balancing r).first → y ≡ (needs_of w.balancing r).second
      → first ≡ got w.balancing (2 * r + 1) → second ≡ got w.balancing (2 * r + 2)
      → letter_to x first (first_child w.balancing.ranks r)
      ++ letter_to y second (second_child w.balancing.ranks r)
      ≡ told (down_row w r) w.balancing.ranks
  told_children r deep x y first second e f g h =
      let k1 = 2 * r + 1 in
      let k2 = 2 * r + 2 in
      let one = child_letter r k1 (nat_lt k1 w.balancing.ranks) refl (omega arith) (omega arith) deep x first e g in
      let two = child_letter r k2 (nat_lt k2 w.balancing.ranks) refl (omega arith) (omega arith) deep y second f h in
      ap (λ (l : List (ℕ × List Placed)). l ++ letter_to y second (second_child w.balancing.ranks r)) one
      ∙ ap (λ (l : List (ℕ × List Placed)). to_child k1 ++ l) two
      ∙ sym (told_two r)

hands : (p q : List Placed) (n m : Needs) → p ≡ q → n ≡ m → hand_of p n ≡ hand_of q m
hands p q n m e f = ap (λ l. hand_of l n) e ∙ ap (λ v. hand_of q v) f

module _ (rank ranks round : ℕ) (pieces : List Placed) (needs : Needs) (quota : ℕ) (smallest : ℤ) (w : Round) (r : ℕ) where
  module _ (is : IsDown rank ranks round pieces needs quota smallest w r) where
    pub says_nothing : (items : List (ℕ × List Placed)) (deep : ℕ) → items ≡ [] → deep ≡ depth rank → deep ≢ round → items ≡ told (down_row w r) w.balancing.ranks
    says_nothing items deep none at other =
        let d = ap depth is.same_rank in
        none ∙ sym (told_nothing w r (λ e. other (omega (arith, at, d, e, is.same_round))))

    module _ (now : depth rank ≡ round) where
      deep : depth r ≡ w.round
      deep = let d = ap depth is.same_rank in omega (arith, d, now, is.same_round)

      pub whole : pieces ≡ stayed w.balancing r ++ got w.balancing r
      whole = is.same_pieces ∙ ap (λ h. h.pieces) (down_at w r deep)

      pub needs_are : needs ≡ needs_of w.balancing r
      needs_are = is.same_needs ∙ ap (λ h. h.needs) (down_at w r deep)

      pub hand_small : load pieces < 2 ^ 63
      hand_small = omega (arith, ap load whole, down_fits w.balancing is.fair r is.within)

      pub fall_is : (s : ℕ) (hand : List Placed) → s ≡ unsigned_abs smallest → hand ≡ pieces → fall s hand needs.first needs.second ≡ down w.balancing r
      fall_is s hand same taken =
          falls w.balancing r s hand needs.first needs.second (same ∙ ap unsigned_abs is.same_smallest) (taken ∙ whole)
          (ap (λ n. n.first) needs_are, ap (λ n. n.second) needs_are)

      pub says_children : (s : ℕ) (hand : List Placed) → s ≡ unsigned_abs smallest → hand ≡ pieces → (first second : List Placed)
          → first ≡ (fall s hand needs.first needs.second).first → second ≡ (fall s hand needs.first needs.second).second
          → (items mid old : List (ℕ × List Placed)) (x y : Option ℕ) → old ≡ [] → x ≡ first_child ranks rank → y ≡ second_child ranks rank
          → mid ≡ old ++ option_map_or (λ c. cond (nat_lt 0 needs.first) ((c, first) ∷ []) []) x []
          → items ≡ mid ++ option_map_or (λ c. cond (nat_lt 0 needs.second) ((c, second) ∷ []) []) y [] → items ≡ told (down_row w r) w.balancing.ranks
      says_children s hand same taken first second e f items mid old x y none one two m i =
          let b = w.balancing in
          let first_is = e ∙ ap (λ (v : Fall). v.first) (fall_is s hand same taken) ∙ sym (got_left b r) in
          let second_is = f ∙ ap (λ (v : Fall). v.second) (fall_is s hand same taken) ∙ sym (got_right b r) in
          let x_is = one ∙ ap (λ (n : ℕ). first_child n rank) is.same_ranks ∙ ap (λ (k : ℕ). first_child b.ranks k) is.same_rank in
          let y_is = two ∙ ap (λ (n : ℕ). second_child n rank) is.same_ranks ∙ ap (λ (k : ℕ). second_child b.ranks k) is.same_rank in
          let A : Option ℕ → List (ℕ × List Placed) = λ o. letter_to needs.first first o in
          let B : Option ℕ → List (ℕ × List Placed) = λ o. letter_to needs.second second o in
          let mid_is : mid ≡ A (first_child b.ranks r) = m ∙ ap (λ l. l ++ A x) none ∙ ap A x_is in
          i ∙ ap (λ l. l ++ B y) mid_is ∙ ap (λ o. A (first_child b.ranks r) ++ B o) y_is
          ∙ told_children w r deep needs.first needs.second first second (ap (λ n. n.first) needs_are) (ap (λ n. n.second) needs_are) first_is second_is

      pub waits_given : (s : ℕ) (hand : List Placed) → s ≡ unsigned_abs smallest → hand ≡ pieces → (left : List Placed)
          → left ≡ (fall s hand needs.first needs.second).left → HasGivenDown rank ranks round left needs quota smallest w r
      waits_given s hand same taken left e =
          let gave = cond-true {A = Hand} (nat_eq (depth r) w.round) (going_down (next w) r) (going_down w r) (eq-eqb _ _ deep) in
          let after = gave ∙ down_past (next w) r (omega (arith, deep)) in
          record {
            same_rank = is.same_rank;
            same_ranks = is.same_ranks;
            within = is.within;
            same_round = is.same_round;
            same_pieces = e ∙ ap (λ (v : Fall). v.left) (fall_is s hand same taken) ∙ sym (ap (λ (h : Hand). h.pieces) after);
            same_needs = needs_are ∙ sym (ap (λ (h : Hand). h.needs) after);
            same_quota = is.same_quota;
            same_smallest = is.same_smallest;
            fair = is.fair;
          }

  module _ (is : HasGivenDown rank ranks round pieces needs quota smallest w r) where
    turn_of : (t : Bool) → t ≡ told_down ranks round rank → told_down w.balancing.ranks w.round r ≡ t
    turn_of t e = sym (rw (is.same_rank, is.same_ranks, is.same_round) at e)

    pub goal_none : false ≡ told_down ranks round rank → 0 ≡ sum_by (λ (held : Held (List Placed)). 1) (heard (column (down_row w) r) w.balancing.ranks)
    goal_none off = sym (count_heard w r false (not_given w r (turn_of false off)))

    module _ (on : true ≡ told_down ranks round rank) where
      deep_now : depth r ≡ w.round + 1
      deep_now = told_depth w.balancing.ranks w.round r (turn_of true on)

      kept : pieces ≡ stayed w.balancing r
      kept = is.same_pieces ∙ ap (λ h. h.pieces) (before_told w r deep_now)

      known : needs ≡ needs_of w.balancing r
      known = is.same_needs ∙ ap (λ h. h.needs) (before_told w r deep_now)

      pub load_small : load pieces < 2 ^ 63
      load_small = omega (arith, ap load kept, stayed_fits w.balancing is.fair r is.within)

      wanted : quota + needs.first + needs.second ≡ w.balancing.quota r + (needs_of w.balancing r).first + (needs_of w.balancing r).second
      wanted =
          let one = ap (λ n. n.first) known in
          let two = ap (λ n. n.second) known in
          omega (arith, one, two, is.same_quota)

      pub wanted_small : quota + needs.first + needs.second < 2 ^ 63
      wanted_small = omega (arith, wanted, wanted_sum w.balancing is.fair r is.within, wanted_fits w.balancing is.fair r is.within)

      pub goal_is : (n need : ℕ) (hand : List Placed) → n ≡ cond {A = ℕ} (nat_lt 0 need) 1 0 → need ≡ (quota + needs.first + needs.second) - load hand → hand ≡ pieces
          → n ≡ sum_by (λ (held : Held (List Placed)). 1) (heard (column (down_row w) r) w.balancing.ranks)
      goal_is n need hand e f g =
          let above = (and_above (turn_of true on)) in
          let need_is : need ≡ (up w.balancing r).need =
          f ∙ ap (λ l. (quota + needs.first + needs.second) - load l) (g ∙ kept) ∙ ap (λ k. k - load (stayed w.balancing r)) wanted
          ∙ need_again_is w.balancing is.fair r is.within above in
          let test : is_given w r ≡ nat_lt 0 (up w.balancing r).need = ap (λ q. q && nat_lt 0 (up w.balancing r).need) (turn_of true on) in
          e ∙ ap (λ k. cond {A = ℕ} (nat_lt 0 k) 1 0) need_is ∙ sym (count_heard w r (nat_lt 0 (up w.balancing r).need) test)
        where
          and_above : told_down w.balancing.ranks w.round r ≡ true → 0 < r
          and_above t = ltb-true 0 r (and_parts (nat_lt 0 r) _ t).0

    pub ends : (held : List (Held (List Placed))) → held ≡ heard (column (down_row w) r) w.balancing.ranks → (all : List Placed)
        → all ≡ pieces ++ flat_map (λ (h : Held (List Placed)). h.body) held → hand_of all needs ≡ after_down w r
    ends held are all e = elim (cases_eq (depth r) (w.round + 1)) [
      | inl deep ↦
          let b = w.balancing in
          let before = before_told w r deep in
          let own = is.same_pieces ∙ ap (λ h. h.pieces) before in
          let same_needs = is.same_needs ∙ ap (λ h. h.needs) before in
          let now = depth_told b.ranks w.round r is.within deep in
          let all_are : all ≡ stayed b r ++ got b r = e ∙ ap (λ l. l ++ flat_map (λ (h : Held (List Placed)). h.body) held) own ∙ ap (λ l. stayed b r ++ l) (given deep now) in
          hands all (stayed b r ++ got b r) needs (needs_of b r) all_are same_needs ∙ sym (down_at (next w) r deep)
      | inr quiet ↦
          let none = are ∙ heard_nobody w r (not_given w r (depth_not_told w.balancing.ranks w.round r quiet)) in
          let same = e ∙ ap (λ (l : List (Held (List Placed))). pieces ++ flat_map (λ (h : Held (List Placed)). h.body) l) none ∙ append-nil pieces ∙ is.same_pieces in
          hands all (gave_down w r).pieces needs (gave_down w r).needs same is.same_needs ∙ stays w r quiet
    ]
      where
        given : depth r ≡ w.round + 1 → told_down w.balancing.ranks w.round r ≡ true → flat_map (λ (h : Held (List Placed)). h.body) held ≡ got w.balancing r
        given deep now = elim (cases_lt 0 (up w.balancing r).need) [
          | inl some ↦
              let on = and_from (told_down w.balancing.ranks w.round r) (nat_lt 0 (up w.balancing r).need) now (lt-ltb 0 (up w.balancing r).need some) in
              ap (flat_map (λ (h : Held (List Placed)). h.body)) (are ∙ heard_parent w r on) ∙ append-nil (got w.balancing r)
          | inr none ↦
              let off = and_right (told_down w.balancing.ranks w.round r) (nat_lt 0 (up w.balancing r).need) (le-ltb 0 (up w.balancing r).need none) in
              ap (flat_map (λ (h : Held (List Placed)). h.body)) (are ∙ heard_nobody w r off)
              ∙ sym (got_none w.balancing r is.within (omega (arith, none)))
        ]
