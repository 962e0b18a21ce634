-- The way down: each rank's step from that of its parent, and what holds of all pieces on it.
use Rattle.std.proofs.Common.{◌≡◌, ℕ, zero, suc, ◌+◌, ◌-◌, ◌*◌, ◌/◌, ◌%◌, ◌<◌, ◌≤◌, refl, sym, ap, subst, ◌∙◌, inl, inr, arith, nat_lt, nat_eq}
use Rattle.std.proofs.lemmas.Bool.{cond_both, cond-true, cond-false, lt-ltb, le-ltb, eq-eqb, ne_eqb, cases_lt, cases_eq}
use Rattle.std.specs.Prelude.{cond, List, [], ◌++◌, Option, Some, None, option_map, ◌⊎◌}
use Rattle.samr_tree.specs.Tree.{parent, first_child, second_child}
use Rattle.samr_load.specs.Pieces.{Placed, piece_cmp, total}
use Rattle.samr_load.specs.Taking.{Parted, parted}
use Rattle.samr_load.specs.Ascent.{Balancing, up_of, up, stayed}
use Rattle.samr_load.specs.Descent.{Fall, given, fall_of, share, down_from, down, got, pieces_of}
use Rattle.samr_load.proofs.Totals.{Each, each_none, each_append, each_sorted}
use Rattle.samr_load.proofs.Parting.{IsSolid, SharesOut, Inherits, parted_total, parted_each}
use Rattle.samr_load.proofs.Ascents.{stayed_each}

-- what a child is given and what stays have the hand's total, and any fact that both parts of a cut inherit
pub given_total : (m : Placed → ℕ) → SharesOut m → (s : ℕ) → 0 < s → (hand : List Placed) (need : ℕ) → Each IsSolid hand
    → total m (given s hand need).taken + total m (given s hand need).rest ≡ total m hand
given_total m shares s some hand need full =
    cond_both {A = Parted} (nat_eq need 0) (record { taken = []; rest = hand }) (parted s hand need)
    (λ (p : Parted). total m p.taken + total m p.rest ≡ total m hand)
    (λ _. omega arith)
    (λ _. parted_total m shares s some hand need full)

pub given_each : (P : Placed → Type 0) → Inherits P → ((q : Placed) → P q → IsSolid q) → (s : ℕ) → 0 < s → (hand : List Placed) (need : ℕ)
    → Each P hand → Each P (given s hand need).taken × Each P (given s hand need).rest
given_each P inherits solid s some hand need each =
    cond_both {A = Parted} (nat_eq need 0) (record { taken = []; rest = hand }) (parted s hand need)
    (λ (p : Parted). Each P p.taken × Each P p.rest)
    (λ _. (each_none P, each))
    (λ _. parted_each P inherits solid s some hand need each)

-- a child that needs nothing is given nothing, and the hand stays
pub given_nothing : (s : ℕ) (hand : List Placed) (need : ℕ) → need ≡ 0
    → given s hand need ≡ (let p : Parted = record { taken = []; rest = hand } in p)
given_nothing s hand need none =
    cond-true {A = Parted} (nat_eq need 0) (record { taken = []; rest = hand }) (parted s hand need) (eq-eqb need 0 none)

-- the parent of a rank is at least one number before it
pub parent_of : (rank : ℕ) → 0 < rank → parent rank ≡ Some ((rank - 1) / 2)
parent_of rank some = cond-true (nat_lt 0 rank) (Some ((rank - 1) / 2)) None (lt-ltb 0 rank some)

parent_of_root : (rank : ℕ) → rank ≡ 0 → parent rank ≡ None
parent_of_root rank root = cond-false (nat_lt 0 rank) (Some ((rank - 1) / 2)) None (le-ltb 0 rank (omega arith))

-- two functions that agree on the ranks before one agree on its parent
same_parent : (f g : ℕ → Fall) (rank : ℕ) → ((above : ℕ) → above < rank → f above ≡ g above)
    → option_map f (parent rank) ≡ option_map g (parent rank)
same_parent f g rank same = elim (cases_lt 0 rank) [
  | inl some ↦
      let above = (rank - 1) / 2 in
      ap (option_map f) (parent_of rank some) ∙ ap {B = Option Fall} Some (same above (omega arith))
      ∙ sym (ap (option_map g) (parent_of rank some))
  | inr none ↦
      let root = parent_of_root rank (omega arith) in
      ap (option_map f) root ∙ sym (ap (option_map g) root)
]

share_of_root : (f : ℕ → Fall) (rank : ℕ) → rank ≡ 0 → share rank (option_map f (parent rank)) ≡ []
share_of_root f rank root = ap (λ (o : Option ℕ). share rank (option_map f o)) (parent_of_root rank root)

module _ (b : Balancing) where
  down_stable : (most other rank : ℕ) → rank ≤ most → rank ≤ other → down_from b most rank ≡ down_from b other rank
  down_stable zero zero rank p q = refl
  down_stable zero (suc other) rank p q =
      ap (λ (l : List Placed). fall_of b rank l) (sym (share_of_root (down_from b other) rank (omega arith)))
  down_stable (suc most) zero rank p q =
      ap (λ (l : List Placed). fall_of b rank l) (share_of_root (down_from b most) rank (omega arith))
  down_stable (suc most) (suc other) rank p q =
      ap (λ (o : Option Fall). fall_of b rank (share rank o))
      (same_parent (down_from b most) (down_from b other) rank (λ above less. down_stable most other above (omega arith) (omega arith)))

  -- a rank's step from that of its parent
  pub down_step : (rank : ℕ) → down b rank ≡ fall_of b rank (got b rank)
  unfolding down
  down_step rank =
      down_stable rank (suc rank) rank (omega arith) (omega arith)
      ∙ ap (λ (o : Option Fall). fall_of b rank (share rank o))
      (same_parent (down_from b rank) (λ r. down_from b r r) rank (λ above less. down_stable rank above above (omega arith) (omega arith)))

  pub got_root : got b 0 ≡ []
  got_root = share_of_root (down b) 0 refl

  got_of : (rank child : ℕ) → 0 < child → (child - 1) / 2 ≡ rank → got b child ≡ cond (nat_eq (child % 2) 1) (down b rank).first (down b rank).second
  got_of rank child some above =
      ap (λ (o : Option ℕ). share child (option_map (down b) o)) (parent_of child some)
      ∙ ap (λ (r : ℕ). cond (nat_eq (child % 2) 1) (down b r).first (down b r).second) above

  -- what a child is given is what its parent gives it
  pub got_left : (rank : ℕ) → got b (2 * rank + 1) ≡ (down b rank).first
  got_left rank =
      let odd : (2 * rank + 1) % 2 ≡ 1 = omega arith in
      got_of rank (2 * rank + 1) (omega arith) (omega arith)
      ∙ cond-true (nat_eq ((2 * rank + 1) % 2) 1) (down b rank).first (down b rank).second (eq-eqb ((2 * rank + 1) % 2) 1 odd)

  pub got_right : (rank : ℕ) → got b (2 * rank + 2) ≡ (down b rank).second
  got_right rank =
      got_of rank (2 * rank + 2) (omega arith) (omega arith)
      ∙ cond-false (nat_eq ((2 * rank + 2) % 2) 1) (down b rank).first (down b rank).second (ne_eqb ((2 * rank + 2) % 2) 1 (λ odd. absurd (omega arith)))

  -- a rank that needs nothing is given nothing
  none_left : (rank : ℕ) → 2 * rank + 1 < b.ranks → (up b (2 * rank + 1)).need ≡ 0 → got b (2 * rank + 1) ≡ []
  none_left rank inside none =
      let child = ap (λ (o : Option ℕ). (up_of b o).need) (cond-true (nat_lt (2 * rank + 1) b.ranks) (Some (2 * rank + 1)) None (lt-ltb (2 * rank + 1) b.ranks inside)) in
      got_left rank ∙ ap (λ (f : Fall). f.first) (down_step rank)
      ∙ ap (λ (p : Parted). p.taken) (given_nothing b.smallest (stayed b rank ++ got b rank) (up_of b (first_child b.ranks rank)).need (child ∙ none))

  none_right : (rank : ℕ) → 2 * rank + 2 < b.ranks → (up b (2 * rank + 2)).need ≡ 0 → got b (2 * rank + 2) ≡ []
  none_right rank inside none =
      let rest = (given b.smallest (stayed b rank ++ got b rank) (up_of b (first_child b.ranks rank)).need).rest in
      let child = ap (λ (o : Option ℕ). (up_of b o).need) (cond-true (nat_lt (2 * rank + 2) b.ranks) (Some (2 * rank + 2)) None (lt-ltb (2 * rank + 2) b.ranks inside)) in
      got_right rank ∙ ap (λ (f : Fall). f.second) (down_step rank)
      ∙ ap (λ (p : Parted). p.taken) (given_nothing b.smallest rest (up_of b (second_child b.ranks rank)).need (child ∙ none))

  pub got_none : (rank : ℕ) → rank < b.ranks → (up b rank).need ≡ 0 → got b rank ≡ []
  got_none rank inside none = by_child rank inside none (cases_lt 0 rank) (cases_eq rank (2 * ((rank - 1) / 2) + 1))
    where
      by_child : (r : ℕ) → r < b.ranks → (up b r).need ≡ 0 → (0 < r) ⊎ (r ≤ 0)
          → (r ≡ 2 * ((r - 1) / 2) + 1) ⊎ (r ≡ 2 * ((r - 1) / 2) + 1 → ⊥) → got b r ≡ []
      by_child r inside none (inr root) e = let at_root : r ≡ 0 = omega arith in ap (got b) at_root ∙ got_root
      by_child r inside none (inl child) (inl e) =
          let P : ℕ → Type 0 = λ c. c < b.ranks → (up b c).need ≡ 0 → got b c ≡ [] in
          subst P (sym e) (none_left ((r - 1) / 2)) inside none
      by_child r inside none (inl child) (inr other) =
          let e : r ≡ 2 * ((r - 1) / 2) + 2 = omega (arith, other) in
          let P : ℕ → Type 0 = λ c. c < b.ranks → (up b c).need ≡ 0 → got b c ≡ [] in
          subst P (sym e) (none_right ((r - 1) / 2)) inside none

  -- where no child needs anything, the hand stays
  pub down_stays : (rank : ℕ) → (up_of b (first_child b.ranks rank)).need ≡ 0 → (up_of b (second_child b.ranks rank)).need ≡ 0
      → (down b rank).left ≡ stayed b rank ++ got b rank
  down_stays rank one two =
      let hand = stayed b rank ++ got b rank in
      ap (λ (f : Fall). f.left) (down_step rank)
      ∙ ap (λ (p : Parted). (given b.smallest p.rest (up_of b (second_child b.ranks rank)).need).rest)
      (given_nothing b.smallest hand (up_of b (first_child b.ranks rank)).need one)
      ∙ ap (λ (p : Parted). p.rest) (given_nothing b.smallest hand (up_of b (second_child b.ranks rank)).need two)

  module _ (P : Placed → Type 0) (inherits : Inherits P) (solid : (q : Placed) → P q → IsSolid q) (some : 0 < b.smallest)
      (own : (rank : ℕ) → rank < b.ranks → Each P (b.own rank)) where
    abbrev AllGiven : Fall → Type 0
    AllGiven f = Each P f.first × Each P f.second × Each P f.left

    fall_each : (rank : ℕ) (l : List Placed) → rank < b.ranks → Each P l → AllGiven (fall_of b rank l)
    fall_each rank l inside each =
        let hand = each_append P (stayed b rank) l (stayed_each b P inherits solid some own rank inside) each in
        let x = (up_of b (first_child b.ranks rank)).need in
        let y = (up_of b (second_child b.ranks rank)).need in
        let first = given_each P inherits solid b.smallest some (stayed b rank ++ l) x hand in
        let second = given_each P inherits solid b.smallest some (given b.smallest (stayed b rank ++ l) x).rest y first.1 in
        (first.0, second.0, second.1)

    share_each : (rank : ℕ) (f : Fall) → AllGiven f → Each P (share rank (Some f))
    share_each rank f all =
        cond_both (nat_eq (rank % 2) 1) f.first f.second (λ l. Each P l) (λ _. all.0) (λ _. all.1)

    down_from_each : (most rank : ℕ) → rank ≤ most → rank < b.ranks → AllGiven (down_from b most rank)
    down_from_each zero rank small inside = fall_each rank [] inside (each_none P)
    down_from_each (suc most) rank small inside =
        fall_each rank (share rank (option_map (down_from b most) (parent rank))) inside
        (shared (cases_lt 0 rank) (λ above less. down_from_each most above (omega arith) (omega arith)))
      where
        shared : (0 < rank) ⊎ (rank ≤ 0) → ((above : ℕ) → above < rank → AllGiven (down_from b most above))
            → Each P (share rank (option_map (down_from b most) (parent rank)))
        shared (inl root) each =
            subst (λ (o : Option ℕ). Each P (share rank (option_map (down_from b most) o))) (sym (parent_of rank root))
            (share_each rank (down_from b most ((rank - 1) / 2)) (each ((rank - 1) / 2) (omega arith)))
        shared (inr root) each =
            subst (λ (l : List Placed). Each P l) (sym (share_of_root (down_from b most) rank (omega arith))) (each_none P)

    pub down_each : (rank : ℕ) → rank < b.ranks → AllGiven (down b rank)
    unfolding down
    down_each rank inside = down_from_each rank rank (omega arith) inside

    pub pieces_each : (rank : ℕ) → rank < b.ranks → Each P (pieces_of b rank)
    pieces_each rank inside = each_sorted P piece_cmp (down b rank).left (down_each rank inside).2

    pub got_each : (rank : ℕ) → rank < b.ranks → Each P (got b rank)
    got_each rank inside = elim (cases_lt 0 rank) [
      | inl some' ↦
          subst (λ (o : Option ℕ). Each P (share rank (option_map (down b) o))) (sym (parent_of rank some'))
          (share_each rank (down b ((rank - 1) / 2)) (down_each ((rank - 1) / 2) (omega arith)))
      | inr root ↦
          subst (λ (l : List Placed). Each P l) (sym (share_of_root (down b) rank (omega arith))) (each_none P)
    ]
