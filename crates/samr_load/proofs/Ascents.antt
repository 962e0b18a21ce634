-- The way up: each rank's step from those of its children, and what holds of all pieces on it.
use Rattle.std.proofs.Common.{◌≡◌, ℕ, zero, suc, ◌+◌, ◌-◌, ◌*◌, ◌<◌, ◌≤◌, refl, sym, ap, subst, ◌∙◌, arith, nat_lt}
use Rattle.std.proofs.lemmas.Bool.{cond_both, ltb-true}
use Rattle.std.specs.Prelude.{Bool, true, false, cond, ◌++◌, Option, Some, None}
use Rattle.samr_tree.specs.Tree.{first_child, second_child}
use Rattle.samr_load.specs.Pieces.{Placed, load}
use Rattle.samr_load.specs.Ascent.{Balancing, Climb, climb, joined, nobody, up_to, up_of, up, stayed}
use Rattle.samr_load.proofs.Totals.{Each, each_none, each_append}
use Rattle.samr_load.proofs.Parting.{IsSolid, Inherits, parted_each}

-- one of so many ranks, if there is one
abbrev pub Within : ℕ → Option ℕ → Type 0
Within ranks None = Unit {0}
Within ranks (Some rank) = rank < ranks

-- so many ranks on the way from it are enough
abbrev Reaches : ℕ → ℕ → Option ℕ → Type 0
Reaches ranks most None = Unit {0}
Reaches ranks most (Some rank) = ranks ≤ most + rank

pub first_within : (ranks rank : ℕ) → Within ranks (first_child ranks rank)
first_within ranks rank =
    cond_both (nat_lt (2 * rank + 1) ranks) (Some (2 * rank + 1)) None (λ o. Within ranks o) (λ yes. ltb-true (2 * rank + 1) ranks yes) (λ no. tt)

pub second_within : (ranks rank : ℕ) → Within ranks (second_child ranks rank)
second_within ranks rank =
    cond_both (nat_lt (2 * rank + 2) ranks) (Some (2 * rank + 2)) None (λ o. Within ranks o) (λ yes. ltb-true (2 * rank + 2) ranks yes) (λ no. tt)

first_reaches : (ranks most rank : ℕ) → ranks ≤ suc most + rank → Reaches ranks most (first_child ranks rank)
first_reaches ranks most rank h =
    cond_both (nat_lt (2 * rank + 1) ranks) (Some (2 * rank + 1)) None (λ o. Reaches ranks most o) (λ yes. omega arith) (λ no. tt)

second_reaches : (ranks most rank : ℕ) → ranks ≤ suc most + rank → Reaches ranks most (second_child ranks rank)
second_reaches ranks most rank h =
    cond_both (nat_lt (2 * rank + 2) ranks) (Some (2 * rank + 2)) None (λ o. Reaches ranks most o) (λ yes. omega arith) (λ no. tt)

module _ (b : Balancing) where
  -- more than enough ranks change nothing
  stable : (most other : ℕ) (rank : Option ℕ) → Within b.ranks rank → Reaches b.ranks most rank → Reaches b.ranks other rank
      → up_to b most rank ≡ up_to b other rank
  stable most other None inside p q = refl
  stable zero other (Some rank) inside p q = absurd (omega (arith, inside, p))
  stable (suc most) zero (Some rank) inside p q = absurd (omega (arith, inside, q))
  stable (suc most) (suc other) (Some rank) inside p q =
      let n = b.ranks in
      let first = stable most other (first_child n rank) (first_within n rank) (first_reaches n most rank p) (first_reaches n other rank q) in
      let second = stable most other (second_child n rank) (second_within n rank) (second_reaches n most rank p) (second_reaches n other rank q) in
      ap (λ (c : Climb). joined b rank c (up_to b most (second_child n rank))) first
      ∙ ap (λ (c : Climb). joined b rank (up_to b other (first_child n rank)) c) second

  -- a rank's step from those of its children; where there is no child, nobody gives or needs
  pub up_inside : (rank : ℕ) → rank < b.ranks
      → up b rank ≡ joined b rank (up_of b (first_child b.ranks rank)) (up_of b (second_child b.ranks rank))
  unfolding up_of
  up_inside rank inside = stable b.ranks (suc b.ranks) (Some rank) inside (omega arith) (omega arith)

  pub up_outside : up_of b None ≡ nobody
  unfolding up_of
  up_outside = refl

  pub up_hand : (rank : ℕ) → rank < b.ranks
      → (up b rank).hand ≡ b.own rank ++ (up_of b (first_child b.ranks rank)).given ++ (up_of b (second_child b.ranks rank)).given
  up_hand rank inside = ap (λ (c : Climb). c.hand) (up_inside rank inside)

  pub up_wanted : (rank : ℕ) → rank < b.ranks
      → (up b rank).wanted ≡ b.quota rank + (up_of b (first_child b.ranks rank)).need + (up_of b (second_child b.ranks rank)).need
  up_wanted rank inside = ap (λ (c : Climb). c.wanted) (up_inside rank inside)

  pub up_is : (rank : ℕ) → rank < b.ranks → up b rank ≡ climb b.smallest (up b rank).hand (up b rank).wanted
  up_is rank inside =
      subst (λ (c : Climb). c ≡ climb b.smallest c.hand c.wanted) (sym (up_inside rank inside)) refl

  -- a number of the first and of the second child, if there are so many ranks
  of_child : (f : Climb → ℕ) → f nobody ≡ 0 → (child : ℕ) (t : Bool) → f (up_of b (cond t (Some child) None)) ≡ cond t (f (up b child)) 0
  of_child f none child true = refl
  of_child f none child false = ap f up_outside ∙ none

  pub of_first : (f : Climb → ℕ) → f nobody ≡ 0 → (rank : ℕ)
      → f (up_of b (first_child b.ranks rank)) ≡ cond (nat_lt (2 * rank + 1) b.ranks) (f (up b (2 * rank + 1))) 0
  of_first f none rank = of_child f none (2 * rank + 1) (nat_lt (2 * rank + 1) b.ranks)

  pub of_second : (f : Climb → ℕ) → f nobody ≡ 0 → (rank : ℕ)
      → f (up_of b (second_child b.ranks rank)) ≡ cond (nat_lt (2 * rank + 2) b.ranks) (f (up b (2 * rank + 2))) 0
  of_second f none rank = of_child f none (2 * rank + 2) (nat_lt (2 * rank + 2) b.ranks)

  -- what holds of all own pieces, and is inherited by the parts of a cut, holds on the way up
  module _ (P : Placed → Type 0) (inherits : Inherits P) (solid : (q : Placed) → P q → IsSolid q) (some : 0 < b.smallest)
      (own : (rank : ℕ) → rank < b.ranks → Each P (b.own rank)) where
    abbrev AllOf : Climb → Type 0
    AllOf c = Each P c.hand × Each P c.kept × Each P c.given

    up_to_each : (most : ℕ) (rank : Option ℕ) → Within b.ranks rank → AllOf (up_to b most rank)
    up_to_each most None inside = (each_none P, each_none P, each_none P)
    up_to_each zero (Some rank) inside = (each_none P, each_none P, each_none P)
    up_to_each (suc most) (Some rank) inside =
        let n = b.ranks in
        let first = up_to_each most (first_child n rank) (first_within n rank) in
        let second = up_to_each most (second_child n rank) (second_within n rank) in
        let hand =
        each_append P (b.own rank ++ (up_to b most (first_child n rank)).given) (up_to b most (second_child n rank)).given
        (each_append P (b.own rank) (up_to b most (first_child n rank)).given (own rank inside) first.2) second.2 in
        let parts = parted_each P inherits solid b.smallest some (up_to b (suc most) (Some rank)).hand
        (load (up_to b (suc most) (Some rank)).hand - (up_to b (suc most) (Some rank)).wanted) hand in
        (hand, parts.1, parts.0)

    pub up_each : (rank : Option ℕ) → Within b.ranks rank → AllOf (up_of b rank)
    unfolding up_of
    up_each rank inside = up_to_each b.ranks rank inside

    pub stayed_each : (rank : ℕ) → rank < b.ranks → Each P (stayed b rank)
    stayed_each zero inside = (up_each (Some 0) inside).0
    stayed_each (suc rank) inside = (up_each (Some (suc rank)) inside).1
