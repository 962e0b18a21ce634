-- In a round that a rank does not visit its hand stays as it is.
use Rattle.std.proofs.Common.{◌≡◌, ℕ, ◌+◌, ◌-◌, ◌*◌, ◌/◌, ◌<◌, List, ◌++◌, sym, ap, ◌∙◌, arith, nat_lt, nat_eq, inl, inr, append-nil}
use Rattle.std.specs.Prelude.{Bool, true, false, ◌&&◌, ◌||◌}
use Rattle.std.proofs.lemmas.Bool.{cond-false, cases_lt, cases_eq, eq-eqb, ne_eqb, ltb-false, le-ltb, and_cases, or_parts, false≢true}
use Rattle.samr_tree.specs.Tree.{first_child, second_child, depth, bottom, tells_up, told_down}
use Rattle.samr_tree.proofs.TreeLemmas.{depth_up}
use Rattle.samr_load.specs.Pieces.{Placed}
use Rattle.samr_load.specs.Ascent.{up_of, up, stayed}
use Rattle.samr_load.proofs.Descents.{got_none, down_stays}
use Rattle.samr_balance.specs.declared.hands.Hand.{Hand}
use Rattle.samr_balance.specs.Rounds.{Round, next, hand_of, needs_of, going_up, going_down}
use Rattle.samr_balance.specs.WayUp.{visits_up}
use Rattle.samr_balance.specs.WayDown.{is_given, visits_down}
use Rattle.samr_balance.proofs.RoundHands.{childless, up_before, up_at, down_before, down_at, down_past}
use Rattle.samr_balance.proofs.WayUpStage as way_up
use Rattle.samr_balance.proofs.WayDownStage as way_down

-- of two tests that do not both hold, the second fails where the first holds
second_fails : (s t : Bool) → (s && t) ≡ false → s ≡ true → t ≡ false
second_fails s t e on = elim (and_cases s t e) [
  | inl off ↦ absurd (false≢true (sym off ∙ on))
  | inr off ↦ off
]

module _ (w : Round) (rank : ℕ) (inside : rank < w.balancing.ranks) where
  -- in the round of its children's turn a child that does not tell is not there
  no_child : (child : ℕ) → 0 < child → (child - 1) / 2 ≡ rank → depth rank + 1 + w.round ≡ bottom w.balancing.ranks
      → tells_up w.balancing.ranks w.round child ≡ false → nat_lt child w.balancing.ranks ≡ false
  no_child child above parent deep off = elim (cases_lt child w.balancing.ranks) [
    | inl there ↦
        let d = depth_up child above in
        let same = ap depth parent in
        absurd (false≢true (sym off ∙ way_up.depth_turn w.balancing.ranks w.round child above there (omega (arith, d, same, deep))))
    | inr past ↦ le-ltb child w.balancing.ranks past
  ]

  pub stays_up : visits_up w rank ≡ false → going_up (next w) rank ≡ going_up w rank
  stays_up quiet =
      let first = tells_up w.balancing.ranks w.round (2 * rank + 1) in
      let second = tells_up w.balancing.ranks w.round (2 * rank + 2) in
      let own = or_parts (tells_up w.balancing.ranks w.round rank) (first || second) quiet in
      let told = or_parts first second own.1 in
      elim (cases_eq (depth rank + 1 + w.round) (bottom w.balancing.ranks)) [
        | inl deep ↦
            let b = w.balancing in
            let one = no_child (2 * rank + 1) (omega arith) (omega arith) deep told.0 in
            let two = no_child (2 * rank + 2) (omega arith) (omega arith) deep told.1 in
            up_at (next w) rank (omega (arith, deep)) ∙ childless b rank inside one two ∙ sym (up_before w rank (omega (arith, deep)))
        | inr other ↦
            sym (way_up.stays w rank inside other)
            ∙ cond-false {A = Hand} (tells_up w.balancing.ranks w.round rank) (going_up (next w) rank) (going_up w rank) own.0
      ]

  pub stays_down : visits_down w rank ≡ false → going_down (next w) rank ≡ going_down w rank
  stays_down quiet =
      let b = w.balancing in
      let x = (up_of b (first_child b.ranks rank)).need in
      let y = (up_of b (second_child b.ranks rank)).need in
      let both = or_parts (nat_eq (depth rank) w.round && (nat_lt 0 x || nat_lt 0 y)) (is_given w rank) quiet in
      elim (cases_eq (depth rank) w.round) [
        | inl now ↦
            let none = or_parts (nat_lt 0 x) (nat_lt 0 y) (second_fails (nat_eq (depth rank) w.round) (nat_lt 0 x || nat_lt 0 y) both.0 (eq-eqb _ _ now)) in
            let first : x ≡ 0 = omega (arith, ltb-false 0 x none.0) in
            let second : y ≡ 0 = omega (arith, ltb-false 0 y none.1) in
            down_past (next w) rank (omega (arith, now))
            ∙ ap (λ (l : List Placed). hand_of l (needs_of b rank)) (down_stays b rank first second)
            ∙ sym (down_at w rank now)
        | inr other ↦ elim (cases_eq (depth rank) (w.round + 1)) [
          | inl deep ↦
              let turn = way_down.depth_told b.ranks w.round rank inside deep in
              let off = second_fails (told_down b.ranks w.round rank) (nat_lt 0 (up b rank).need) both.1 turn in
              let none : (up b rank).need ≡ 0 = omega (arith, ltb-false 0 (up b rank).need off) in
              down_at (next w) rank deep
              ∙ ap (λ (l : List Placed). hand_of (stayed b rank ++ l) (needs_of b rank)) (got_none b rank inside none)
              ∙ ap (λ (l : List Placed). hand_of l (needs_of b rank)) (append-nil (stayed b rank))
              ∙ sym (down_before w rank (omega (arith, deep)))
          | inr later ↦
              sym (way_down.stays w rank later)
              ∙ cond-false {A = Hand} (nat_eq (depth rank) w.round) (going_down (next w) rank) (going_down w rank) (ne_eqb _ _ other)
        ]
      ]
