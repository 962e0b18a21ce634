-- A rank's stage against its part of a round of the way up.
use Rattle.std.proofs.Common.{◌≡◌, ◌≢◌, ℕ, ◌+◌, ◌-◌, ◌*◌, ◌/◌, ◌%◌, ◌<◌, ◌≤◌, ◌^◌, List, [], ◌∷◌, ◌++◌, refl, sym, ap, ◌∙◌, subst, arith, nat_lt, nat_eq, inl, inr, sum_by, append-nil}
use Rattle.std.specs.Prelude.{Bool, cond, true, false, Option, Some, None, ℤ, unsigned_abs, fold}
use Rattle.std.specs.List.{flat_map}
use Rattle.std.specs.Option.{option_map_or}
use Rattle.std.proofs.lemmas.Bool.{cond-true, cond-false, lt-ltb, le-ltb, cases_lt, cases_eq, cases_Bool, eq-eqb, ne_eqb, ltb-true, and_parts, and_left, and_right, eqb-true, false≢true}
use Rattle.std.proofs.lemmas.List.{append_assoc}
use Rattle.samr_stage.specs.declared.stage.Held.{Held}
use Rattle.samr_stage.specs.Row.{told, heard, column}
use Rattle.samr_tree.specs.Tree.{parent, first_child, second_child, depth, bottom, tells_up}
use Rattle.samr_tree.proofs.TreeLemmas.{depth_up, parent-some, parent-none}
use Rattle.samr_load.specs.Pieces.{Placed, load}
use Rattle.samr_load.specs.Ascent.{Balancing, Climb, climb, up_of, up}
use Rattle.samr_load.proofs.Ascents.{up_hand}
use Rattle.samr_load.proofs.PlainSteps.{climbs}
use Rattle.samr_balance.specs.declared.hands.Needs.{Needs}
use Rattle.samr_balance.specs.declared.hands.Hand.{Hand}
use Rattle.samr_balance.specs.declared.hands.Gift.{Gift}
use Rattle.samr_balance.specs.Rounds.{Round, next, hand_of, needs_of, no_needs, going_up, IsPart}
use Rattle.samr_balance.specs.WayUp.{gift, up_row, gave_up, after_up, with_need, IsUp, HasGivenUp}
use Rattle.samr_balance.specs.StageLaws.{tells_inside}
use Rattle.samr_balance.proofs.FamilyLines.{of_child, along_children, along_nobody, along_parent, count_children}
use Rattle.samr_balance.proofs.RoundHands.{up_before, up_at, up_past, stayed_root, stayed_above, hand_fits, wanted_fits, wanted_sum}

-- a rank whose turn it is has its whole hand
pub turn_depth : (ranks round rank : ℕ) → tells_up ranks round rank ≡ true → depth rank + round ≡ bottom ranks
turn_depth ranks round rank turn =
    eqb-true (depth rank + round) (bottom ranks) (and_parts (nat_lt rank ranks) _ (and_parts (nat_lt 0 rank) _ turn).1).1

pub depth_turn : (ranks round rank : ℕ) → 0 < rank → rank < ranks → depth rank + round ≡ bottom ranks → tells_up ranks round rank ≡ true
depth_turn ranks round rank above inside deep =
    let one : nat_lt 0 rank ≡ true = lt-ltb 0 rank above in
    let two : nat_lt rank ranks ≡ true = lt-ltb rank ranks inside in
    let three : nat_eq (depth rank + round) (bottom ranks) ≡ true = eq-eqb _ _ deep in rw (one, two, three) refl

pub depth_no_turn : (ranks round rank : ℕ) → depth rank + round ≢ bottom ranks → tells_up ranks round rank ≡ false
depth_no_turn ranks round rank other =
    and_right (nat_lt 0 rank) _ (and_right (nat_lt rank ranks) _ (ne_eqb _ _ other))

pub outside_no_turn : (ranks round rank : ℕ) → ranks ≤ rank → tells_up ranks round rank ≡ false
outside_no_turn ranks round rank past = and_right (nat_lt 0 rank) _ (and_left (nat_lt rank ranks) _ (le-ltb rank ranks past))

module _ (w : Round) where
  abbrev turn : ℕ → Bool
  turn rank = tells_up w.balancing.ranks w.round rank

  -- what a rank has does not change where its children do not tell it
  pub stays : (r : ℕ) → r < w.balancing.ranks → depth r + 1 + w.round ≢ bottom w.balancing.ranks → gave_up w r ≡ after_up w r
  stays r inside quiet = elim (cases_Bool (turn r)) [
    | inl on ↦ cond-true {A = Hand} (turn r) (going_up (next w) r) (going_up w r) on
    | inr off ↦ cond-false {A = Hand} (turn r) (going_up (next w) r) (going_up w r) off ∙ same off
  ]
    where
      same : turn r ≡ false → going_up w r ≡ going_up (next w) r
      same off = elim (cases_lt (depth r + w.round) (bottom w.balancing.ranks)) [
        | inl before ↦ up_before w r before ∙ sym (up_before (next w) r (omega (arith, before, quiet)))
        | inr rest ↦ elim (cases_lt (bottom w.balancing.ranks) (depth r + w.round)) [
          | inl past ↦ up_past w r past ∙ sym (up_past (next w) r (omega (arith, past)))
          | inr other ↦
              let at : depth r + w.round ≡ bottom w.balancing.ranks = omega (arith, rest, other) in
              let root : r ≡ 0 = elim (cases_lt 0 r) [
                | inl above ↦ absurd (false≢true (sym off ∙ depth_turn w.balancing.ranks w.round r above inside at))
                | inr root ↦ omega (arith, root)
              ] in
              up_at w r at ∙ ap (λ l. hand_of l (needs_of w.balancing r)) (sym (stayed_root w.balancing r root)) ∙ sym (up_past (next w) r (omega (arith, at)))
        ]
      ]

  -- what a rank is told
  pub heard_is : (r : ℕ) → heard (column (up_row w) r) w.balancing.ranks
      ≡ of_child (λ from body. let h : Held Gift = record { sender = from; body = body } in h) w.balancing.ranks turn (gift w.balancing) (tells_inside w.balancing.ranks w.round) (2 * r + 1)
      ++ of_child (λ from body. let h : Held Gift = record { sender = from; body = body } in h) w.balancing.ranks turn (gift w.balancing) (tells_inside w.balancing.ranks w.round) (2 * r + 2)
  unfolding up_row
  heard_is r =
      along_children (λ from body. let h : Held Gift = record { sender = from; body = body } in h) w.balancing.ranks turn (gift w.balancing) (tells_inside w.balancing.ranks w.round) r

  told_nothing : (r : ℕ) → turn r ≡ false → told (up_row w r) w.balancing.ranks ≡ []
  unfolding up_row
  told_nothing r off =
      along_nobody (λ to body. let p : ℕ × Gift = (to, body) in p) w.balancing.ranks turn (gift w.balancing) (tells_inside w.balancing.ranks w.round) r off

  told_parent : (r : ℕ) → turn r ≡ true → told (up_row w r) w.balancing.ranks ≡ ((r - 1) / 2, gift w.balancing r) ∷ []
  unfolding up_row
  told_parent r on =
      along_parent (λ to body. let p : ℕ × Gift = (to, body) in p) w.balancing.ranks turn (gift w.balancing) (tells_inside w.balancing.ranks w.round) r on

  count_heard : (r : ℕ) → sum_by (λ (held : Held Gift). 1) (heard (column (up_row w) r) w.balancing.ranks) ≡ cond {A = ℕ} (turn (2 * r + 1)) 1 0 + cond (turn (2 * r + 2)) 1 0
  unfolding up_row
  count_heard r =
      count_children (λ from body. let h : Held Gift = record { sender = from; body = body } in h) w.balancing.ranks turn (gift w.balancing) (tells_inside w.balancing.ranks w.round) r

  at_child : (child : ℕ) → ◌≡◌ {A = ℕ} (option_map_or (λ k. cond (turn k) 1 0) (cond (nat_lt child w.balancing.ranks) (Some child) None) 0) (cond (turn child) 1 0)
  at_child child = elim (cases_lt child w.balancing.ranks) [
    | inl within ↦
        let test : nat_lt child w.balancing.ranks ≡ true = lt-ltb child w.balancing.ranks within in
        ap (λ b. option_map_or (λ k. cond {A = ℕ} (turn k) 1 0) (cond b (Some child) None) 0) test
    | inr past ↦
        let test : nat_lt child w.balancing.ranks ≡ false = le-ltb child w.balancing.ranks past in
        ap (λ b. option_map_or (λ k. cond {A = ℕ} (turn k) 1 0) (cond b (Some child) None) 0) test
        ∙ sym (ap (λ b. cond {A = ℕ} b 1 0) (outside_no_turn w.balancing.ranks w.round child past))
  ]

  pub counted : (r : ℕ) → option_map_or (λ k. cond {A = ℕ} (turn k) 1 0) (first_child w.balancing.ranks r) 0 + option_map_or (λ k. cond {A = ℕ} (turn k) 1 0) (second_child w.balancing.ranks r) 0
      ≡ sum_by (λ (held : Held Gift). 1) (heard (column (up_row w) r) w.balancing.ranks)
  counted r = omega (arith, count_heard r, at_child (2 * r + 1), at_child (2 * r + 2))

  -- in the round of the children's turn each child that there is tells the rank
  gifts : (r k : ℕ) (t : Bool) → nat_lt k w.balancing.ranks ≡ t → 0 < k → (k - 1) / 2 ≡ r → depth r + 1 + w.round ≡ bottom w.balancing.ranks → turn k ≡ t
  gifts r k true e above up deep =
      let d = depth_up k above in
      let same = ap depth up in
      depth_turn w.balancing.ranks w.round k above (ltb-true k w.balancing.ranks e) (omega (arith, d, same, deep))
  gifts r k false e above up deep = and_right (nat_lt 0 k) _ (and_left (nat_lt k w.balancing.ranks) _ e)

  no_gifts : (r k : ℕ) → 0 < k → (k - 1) / 2 ≡ r → depth r + 1 + w.round ≢ bottom w.balancing.ranks → turn k ≡ false
  no_gifts r k above up quiet =
      let d = depth_up k above in
      let same = ap depth up in
      depth_no_turn w.balancing.ranks w.round k (λ e. quiet (omega (arith, d, same, e)))

-- a hand with the gifts of two children, of which each may be missing
module _ (b : Balancing) (own : List Placed) (k1 k2 : ℕ) (odd : nat_eq (k1 % 2) 1 ≡ true) (even : nat_eq (k2 % 2) 1 ≡ false) where
  abbrev letter : ℕ → Held Gift
  letter k = record { sender = k; body = gift b k }

  abbrev letters : Bool → Bool → List (Held Gift)
  letters s t = cond s (letter k1 ∷ []) [] ++ cond t (letter k2 ∷ []) []

  abbrev child : Bool → ℕ → Option ℕ
  child t k = cond t (Some k) None

  joined_pieces : (s t : Bool) → own ++ flat_map (λ (h : Held Gift). h.body.pieces) (letters s t) ≡ own ++ (up_of b (child s k1)).given ++ (up_of b (child t k2)).given
  unfolding up_of
  joined_pieces true true =
      let first = (up b k1).given in
      let second = (up b k2).given in
      ap (λ l. own ++ (first ++ l)) (append-nil second) ∙ sym (append_assoc own first second)
  joined_pieces true false = ap (λ l. own ++ l) (append-nil (up b k1).given) ∙ sym (append-nil (own ++ (up b k1).given))
  joined_pieces false true = ap (λ l. own ++ l) (append-nil (up b k2).given) ∙ ap (λ l. l ++ (up b k2).given) (sym (append-nil own))
  joined_pieces false false = sym (append-nil (own ++ []))

  joined_needs : (s t : Bool) → fold with_need no_needs (letters s t)
      ≡ (let n : Needs = record { first = (up_of b (child s k1)).need; second = (up_of b (child t k2)).need } in n)
  unfolding up_of
  joined_needs true true = rw (odd, even) refl
  joined_needs true false = rw odd refl
  joined_needs false true = rw even refl
  joined_needs false false = refl

hands : (p q : List Placed) (n m : Needs) → p ≡ q → n ≡ m → hand_of p n ≡ hand_of q m
hands p q n m e f = ap (λ l. hand_of l n) e ∙ ap (λ v. hand_of q v) f

-- a rank's stage
module _ (rank ranks round : ℕ) (pieces : List Placed) (needs : Needs) (quota : ℕ) (smallest : ℤ) (w : Round) (r : ℕ) where
  turn_of : (hand : Hand) → IsPart rank ranks round pieces needs quota smallest hand w r → (t : Bool) → t ≡ tells_up ranks round rank → tells_up w.balancing.ranks w.round r ≡ t
  turn_of hand is t e = sym (rw (is.same_rank, is.same_ranks, is.same_round) at e)

  module _ (is : IsUp rank ranks round pieces needs quota smallest w r) where
    pub says_nothing : (items : List (ℕ × Gift)) → items ≡ [] → false ≡ tells_up ranks round rank → items ≡ told (up_row w r) w.balancing.ranks
    says_nothing items none quiet = none ∙ sym (told_nothing w r (turn_of (going_up w r) is false quiet))

    pub waits_quiet : false ≡ tells_up ranks round rank → HasGivenUp rank ranks round pieces needs quota smallest w r
    waits_quiet quiet =
        let off = turn_of (going_up w r) is false quiet in
        let same = sym (cond-false {A = Hand} (tells_up w.balancing.ranks w.round r) (going_up (next w) r) (going_up w r) off) in
        subst (λ (h : Hand). IsPart rank ranks round pieces needs quota smallest h w r) same is

    pub has_parent : true ≡ tells_up ranks round rank → None ≡ parent rank → ⊥
    has_parent turn none =
        let on = turn_of (going_up w r) is true turn in
        let inside = tells_inside w.balancing.ranks w.round r on in
        omega (arith, parent-none rank none, inside, is.same_rank)

    module _ (turn : true ≡ tells_up ranks round rank) where
      on : tells_up w.balancing.ranks w.round r ≡ true
      on = turn_of (going_up w r) is true turn

      deep : depth r + w.round ≡ bottom w.balancing.ranks
      deep = turn_depth w.balancing.ranks w.round r on

      pub whole : pieces ≡ (up w.balancing r).hand
      whole = is.same_pieces ∙ ap (λ h. h.pieces) (up_at w r deep)

      pub needs_whole : needs ≡ needs_of w.balancing r
      needs_whole = is.same_needs ∙ ap (λ h. h.needs) (up_at w r deep)

      pub hand_small : load pieces < 2 ^ 63
      hand_small = omega (arith, ap load whole, hand_fits w.balancing is.fair r is.within)

      pub wanted_is : quota + needs.first + needs.second ≡ (up w.balancing r).wanted
      wanted_is =
          let one = ap (λ n. n.first) needs_whole in
          let two = ap (λ n. n.second) needs_whole in
          omega (arith, one, two, is.same_quota, wanted_sum w.balancing is.fair r is.within)

      pub wanted_small : quota + needs.first + needs.second < 2 ^ 63
      wanted_small = omega (arith, wanted_is, wanted_fits w.balancing is.fair r is.within)

      pub climb_is : (s : ℕ) (hand : List Placed) → s ≡ unsigned_abs smallest → hand ≡ pieces → climb s hand (quota + needs.first + needs.second) ≡ up w.balancing r
      climb_is s hand same taken =
          climbs w.balancing r is.within s hand (quota + needs.first + needs.second) (same ∙ ap unsigned_abs is.same_smallest) (taken ∙ whole) wanted_is

      pub says_gift : (s : ℕ) (hand : List Placed) → s ≡ unsigned_abs smallest → hand ≡ pieces → (items old : List (ℕ × Gift)) (above : ℕ) (given : List Placed) (need : ℕ)
          → given ≡ (climb s hand (quota + needs.first + needs.second)).given → need ≡ (climb s hand (quota + needs.first + needs.second)).need
          → items ≡ old ++ (above, (let g : Gift = record { pieces = given; need = need } in g)) ∷ [] → old ≡ [] → Some above ≡ parent rank
          → items ≡ told (up_row w r) w.balancing.ranks
      says_gift s hand same taken items old above given need e f pushed none is_parent =
          let there : above ≡ (r - 1) / 2 = (parent-some rank above is_parent).1 ∙ ap (λ k. (k - 1) / 2) is.same_rank in
          let given_is = e ∙ ap (λ (c : Climb). c.given) (climb_is s hand same taken) in
          let need_is = f ∙ ap (λ (c : Climb). c.need) (climb_is s hand same taken) in
          pushed ∙ ap (λ xs. xs ++ (above, (let g : Gift = record { pieces = given; need = need } in g)) ∷ []) none
          ∙ ap (λ (l : List Placed). (above, (let g : Gift = record { pieces = l; need = need } in g)) ∷ []) given_is
          ∙ ap (λ (n : ℕ). (above, (let g : Gift = record { pieces = (up w.balancing r).given; need = n } in g)) ∷ []) need_is
          ∙ ap (λ (a : ℕ). (a, gift w.balancing r) ∷ []) there
          ∙ sym (told_parent w r on)

      pub waits_given : (s : ℕ) (hand : List Placed) → s ≡ unsigned_abs smallest → hand ≡ pieces → (kept : List Placed) → kept ≡ (climb s hand (quota + needs.first + needs.second)).kept
          → HasGivenUp rank ranks round kept needs quota smallest w r
      waits_given s hand same taken kept e =
          let gave = cond-true {A = Hand} (tells_up w.balancing.ranks w.round r) (going_up (next w) r) (going_up w r) on in
          let after = gave ∙ up_past (next w) r (omega (arith, deep)) in
          let above = (tells_inside w.balancing.ranks w.round r on).0 in
          record {
            same_rank = is.same_rank;
            same_ranks = is.same_ranks;
            within = is.within;
            same_round = is.same_round;
            same_pieces = e ∙ ap (λ (c : Climb). c.kept) (climb_is s hand same taken) ∙ sym (stayed_above w.balancing r above) ∙ sym (ap (λ (h : Hand). h.pieces) after);
            same_needs = needs_whole ∙ sym (ap (λ (h : Hand). h.needs) after);
            same_quota = is.same_quota;
            same_smallest = is.same_smallest;
            fair = is.fair;
          }

  module _ (is : HasGivenUp rank ranks round pieces needs quota smallest w r) where
    pub goal_is : (n m : ℕ) (x y : Option ℕ) → x ≡ first_child ranks rank → y ≡ second_child ranks rank
        → n ≡ option_map_or (λ k. cond {A = ℕ} (tells_up ranks round k) 1 0) x 0 → m ≡ option_map_or (λ k. cond {A = ℕ} (tells_up ranks round k) 1 0) y 0
        → n + m ≡ sum_by (λ (held : Held Gift). 1) (heard (column (up_row w) r) w.balancing.ranks)
    goal_is n m x y first second e f =
        let F : ℕ → ℕ → ℕ → Type 0 = λ i n k. option_map_or (λ c. cond {A = ℕ} (tells_up n k c) 1 0) (first_child n i) 0 + option_map_or (λ c. cond {A = ℕ} (tells_up n k c) 1 0) (second_child n i) 0
        ≡ sum_by (λ (held : Held Gift). 1) (heard (column (up_row w) r) w.balancing.ranks) in
        let all = subst (λ i. F i ranks round) (sym is.same_rank) (subst (λ n. F r n round) (sym is.same_ranks) (subst (λ k. F r w.balancing.ranks k) (sym is.same_round) (counted w r))) in
        let one = e ∙ ap (λ (o : Option ℕ). option_map_or (λ k. cond {A = ℕ} (tells_up ranks round k) 1 0) o 0) first in
        let two = f ∙ ap (λ (o : Option ℕ). option_map_or (λ k. cond {A = ℕ} (tells_up ranks round k) 1 0) o 0) second in
        omega (arith, one, two, all)

    pub ends : (held : List (Held Gift)) → held ≡ heard (column (up_row w) r) w.balancing.ranks → (all : List Placed) (known : Needs)
        → all ≡ pieces ++ flat_map (λ (h : Held Gift). h.body.pieces) held → known ≡ fold with_need needs held → hand_of all known ≡ after_up w r
    ends held are all known e f = elim (cases_eq (depth r + 1 + w.round) (bottom w.balancing.ranks)) [
      | inl deep ↦
          let b = w.balancing in
          let k1 = 2 * r + 1 in
          let k2 = 2 * r + 2 in
          let s = nat_lt k1 b.ranks in
          let t = nat_lt k2 b.ranks in
          let odd : nat_eq (k1 % 2) 1 ≡ true = eq-eqb _ _ (omega arith) in
          let even : nat_eq (k2 % 2) 1 ≡ false = ne_eqb _ _ (λ e. omega (arith, e)) in
          let one = gifts w r k1 s refl (omega arith) (omega arith) deep in
          let two = gifts w r k2 t refl (omega arith) (omega arith) deep in
          let letters_are = are ∙ heard_is w r
          ∙ ap (λ (q : Bool). cond q (letter b (b.own r) k1 k2 odd even k1 ∷ []) [] ++ cond (tells_up b.ranks w.round k2) (letter b (b.own r) k1 k2 odd even k2 ∷ []) []) one
          ∙ ap (λ (q : Bool). cond s (letter b (b.own r) k1 k2 odd even k1 ∷ []) [] ++ cond q (letter b (b.own r) k1 k2 odd even k2 ∷ []) []) two in
          let off = depth_no_turn b.ranks w.round r (λ e. omega (arith, e, deep)) in
          let gave = cond-false {A = Hand} (tells_up b.ranks w.round r) (going_up (next w) r) (going_up w r) off ∙ up_before w r (omega (arith, deep)) in
          let own = is.same_pieces ∙ ap (λ (h : Hand). h.pieces) gave in
          let none = is.same_needs ∙ ap (λ (h : Hand). h.needs) gave in
          let all_are = e ∙ ap (λ (l : List (Held Gift)). pieces ++ flat_map (λ (h : Held Gift). h.body.pieces) l) letters_are
          ∙ ap (λ (l : List Placed). l ++ flat_map (λ (h : Held Gift). h.body.pieces) (letters b (b.own r) k1 k2 odd even s t)) own
          ∙ joined_pieces b (b.own r) k1 k2 odd even s t
          ∙ sym (up_hand b r is.within) in
          let known_are = f ∙ ap (λ (l : List (Held Gift)). fold with_need needs l) letters_are
          ∙ ap (λ (n : Needs). fold with_need n (letters b (b.own r) k1 k2 odd even s t)) none
          ∙ joined_needs b (b.own r) k1 k2 odd even s t in
          hands all (up b r).hand known (needs_of b r) all_are known_are ∙ sym (up_at (next w) r (omega (arith, deep)))
      | inr quiet ↦
          let b = w.balancing in
          let one = no_gifts w r (2 * r + 1) (omega arith) (omega arith) quiet in
          let two = no_gifts w r (2 * r + 2) (omega arith) (omega arith) quiet in
          let none = are ∙ heard_is w r
          ∙ ap (λ (q : Bool). cond q ((let h : Held Gift = record { sender = 2 * r + 1; body = gift b (2 * r + 1) } in h) ∷ []) [] ++ cond (tells_up b.ranks w.round (2 * r + 2)) ((let h : Held Gift = record { sender = 2 * r + 2; body = gift b (2 * r + 2) } in h) ∷ []) []) one
          ∙ ap (λ (q : Bool). cond q ((let h : Held Gift = record { sender = 2 * r + 2; body = gift b (2 * r + 2) } in h) ∷ []) []) two in
          let same = e ∙ ap (λ (l : List (Held Gift)). pieces ++ flat_map (λ (h : Held Gift). h.body.pieces) l) none ∙ append-nil pieces ∙ is.same_pieces in
          let needs_same = f ∙ ap (λ (l : List (Held Gift)). fold with_need needs l) none ∙ is.same_needs in
          hands all (gave_up w r).pieces known (gave_up w r).needs same needs_same ∙ stays w r is.within quiet
    ]
