-- No rank ends with more than three grains above its quota.
use Rattle.std.proofs.Common.{◌≡◌, ℕ, zero, suc, ◌+◌, ◌-◌, ◌*◌, ◌/◌, ◌<◌, ◌≤◌, refl, sym, ap, subst, ◌∙◌, inl, inr, arith, nat_lt, nat_eq}
use Rattle.std.proofs.Math.Nat.{mul-le-mul_right}
use Rattle.std.proofs.lemmas.Bool.{cond_both, cond-true, lt-ltb, eqb-true, cases_lt, cases_eq}
use Rattle.samr_box.specs.Corners.{longest_of}
use Rattle.std.specs.Prelude.{List, [], ◌∷◌, ◌++◌, Option, Some, None, ◌⊎◌}
use Rattle.samr_bits.specs.Sums.{sum_below}
use Rattle.samr_tree.specs.Tree.{first_child, second_child}
use Rattle.samr_load.specs.Pieces.{Placed, piece_cmp, size_of, load}
use Rattle.samr_load.specs.Taking.{Parted, parted}
use Rattle.samr_load.specs.Ascent.{Balancing, Climb, up_of, up, stayed}
use Rattle.samr_load.specs.Descent.{Fall, given, down, got, pieces_of}
use Rattle.samr_load.specs.Laws.{IsThin, grain}
use Rattle.samr_load.proofs.Totals.{Each, total-append, total-sorted, each_append}
use Rattle.samr_load.proofs.Flows.{flow}
use Rattle.samr_load.proofs.Parting.{IsSolid, parted_total}
use Rattle.samr_load.proofs.Shapes.{thin_inherits, cells_shared, some_across}
use Rattle.samr_load.proofs.Takes.{parted_load, parted_short}
use Rattle.samr_load.proofs.Ascents.{up_wanted, up_is, up_each, stayed_each}
use Rattle.samr_load.proofs.Descents.{given_total, given_each, down_step, got_root, got_left, got_right, got_each}
use Rattle.samr_load.proofs.Keeping.{only, up_flow, wanted_flow, need_is}

sum_le_but_first : (f k : ℕ → ℕ) (n : ℕ) → ((r : ℕ) → r < n → f r ≤ k r) → 0 < n → sum_below f n + k 0 ≤ sum_below k n + f 0
sum_le_but_first f k zero h some = absurd (omega (arith, some))
sum_le_but_first f k (suc zero) h some = omega arith
sum_le_but_first f k (suc (suc n)) h some =
    omega (arith, sum_le_but_first f k (suc n) (λ r p. h r (omega arith)) (omega arith), h (suc n) (omega arith))

-- not more is given than is needed, and less than a grain fewer, unless all is given
module _ (s : ℕ) (some : 0 < s) where
  given_fits : (hand : List Placed) (need : ℕ) → load (given s hand need).taken ≤ need
  given_fits hand need =
      cond_both {A = Parted} (nat_eq need 0) (record { taken = []; rest = hand }) (parted s hand need) (λ (p : Parted). load p.taken ≤ need)
      (λ _. omega arith)
      (λ _. parted_load s some hand need)

  -- a piece that is not empty has a grain
  some_grain : (most : ℕ) (q : Placed) → IsThin most q → 0 < grain s most
  some_grain most q thin =
      let plane = some_across (longest_of q.bx) q.bx thin.not_empty in
      let grows : 1 * most ≤ s * most = mul-le-mul_right most some in
      omega (arith, plane, thin.thin, grows)

  nothing_short : (most : ℕ) (hand : List Placed) (need : ℕ) → Each (IsThin most) hand → need ≡ 0 → (need < grain s most) ⊎ (hand ≡ [])
  nothing_short most [] need thin none = inr refl
  nothing_short most (q ∷ qs) need thin none = let more = some_grain most q (thin q (inl refl)) in inl (omega (arith, more, none))

  given_short : (most : ℕ) (hand : List Placed) (need : ℕ) → Each (IsThin most) hand
      → (need < load (given s hand need).taken + grain s most) ⊎ ((given s hand need).rest ≡ [])
  given_short most hand need thin =
      cond_both {A = Parted} (nat_eq need 0) (record { taken = []; rest = hand }) (parted s hand need)
      (λ (p : Parted). (need < load p.taken + grain s most) ⊎ (p.rest ≡ []))
      (λ yes. elim (nothing_short most hand need thin (eqb-true need 0 yes)) [
        | inl short ↦ inl (omega (arith, short))
        | inr all ↦ inr all
      ])
      (λ _. parted_short s some most hand need thin)

-- what a rank is given is at most what it needs
module _ (b : Balancing) (some : 0 < b.smallest) where
  got_fits_left : (rank : ℕ) → 2 * rank + 1 < b.ranks → load (got b (2 * rank + 1)) ≤ (up b (2 * rank + 1)).need
  got_fits_left rank inside =
      let hand = stayed b rank ++ got b rank in
      let is = ap load (got_left b rank ∙ ap (λ (f : Fall). f.first) (down_step b rank)) in
      let fits = given_fits b.smallest some hand (up_of b (first_child b.ranks rank)).need in
      let child = ap (λ (o : Option ℕ). (up_of b o).need) (cond-true (nat_lt (2 * rank + 1) b.ranks) (Some (2 * rank + 1)) None (lt-ltb (2 * rank + 1) b.ranks inside)) in
      omega (arith, is, fits, child)

  got_fits_right : (rank : ℕ) → 2 * rank + 2 < b.ranks → load (got b (2 * rank + 2)) ≤ (up b (2 * rank + 2)).need
  got_fits_right rank inside =
      let hand = stayed b rank ++ got b rank in
      let rest = (given b.smallest hand (up_of b (first_child b.ranks rank)).need).rest in
      let is = ap load (got_right b rank ∙ ap (λ (f : Fall). f.second) (down_step b rank)) in
      let fits = given_fits b.smallest some rest (up_of b (second_child b.ranks rank)).need in
      let child = ap (λ (o : Option ℕ). (up_of b o).need) (cond-true (nat_lt (2 * rank + 2) b.ranks) (Some (2 * rank + 2)) None (lt-ltb (2 * rank + 2) b.ranks inside)) in
      omega (arith, is, fits, child)

  pub got_fits : (rank : ℕ) → rank < b.ranks → load (got b rank) ≤ (up b rank).need
  got_fits rank inside = by_child rank inside (cases_lt 0 rank) (cases_eq rank (2 * ((rank - 1) / 2) + 1))
    where
      by_child : (r : ℕ) → r < b.ranks → (0 < r) ⊎ (r ≤ 0) → (r ≡ 2 * ((r - 1) / 2) + 1) ⊎ (r ≡ 2 * ((r - 1) / 2) + 1 → ⊥)
          → load (got b r) ≤ (up b r).need
      by_child r inside (inr root) e =
          let at_root : r ≡ 0 = omega arith in
          let none = ap load (ap (got b) at_root ∙ got_root b) in
          omega (arith, none)
      by_child r inside (inl child) (inl e) =
          let P : ℕ → Type 0 = λ c. load (got b c) ≤ (up b c).need in
          subst P (sym e) (got_fits_left ((r - 1) / 2) (omega (arith, e, inside)))
      by_child r inside (inl child) (inr other) =
          let e : r ≡ 2 * ((r - 1) / 2) + 2 = omega (arith, other) in
          let P : ℕ → Type 0 = λ c. load (got b c) ≤ (up b c).need in
          subst P (sym e) (got_fits_right ((r - 1) / 2) (omega (arith, e, inside)))

module _ (b : Balancing) (most : ℕ) (some : 0 < b.smallest) (own : (rank : ℕ) → rank < b.ranks → Each (IsThin most) (b.own rank)) where
  solid_own : (rank : ℕ) → rank < b.ranks → Each IsSolid (b.own rank)
  solid_own rank inside q m = (own rank inside q m).not_empty

  thin_up : (rank : ℕ) → rank < b.ranks → Each (IsThin most) (up b rank).hand
  thin_up rank inside = (up_each b (IsThin most) (thin_inherits most) (λ q h. h.not_empty) some own (Some rank) inside).0

  -- what is given, what is kept, and how short the take falls
  given_load : (rank : ℕ) → rank < b.ranks → load (up b rank).given ≤ load (up b rank).hand - (up b rank).wanted
  given_load rank inside =
      let is = ap (λ (c : Climb). load c.given) (up_is b rank inside) in
      omega (arith, is, parted_load b.smallest some (up b rank).hand (load (up b rank).hand - (up b rank).wanted))

  hand_parts : (rank : ℕ) → rank < b.ranks → load (up b rank).given + load (up b rank).kept ≡ load (up b rank).hand
  hand_parts rank inside =
      let given = ap (λ (c : Climb). load c.given) (up_is b rank inside) in
      let kept = ap (λ (c : Climb). load c.kept) (up_is b rank inside) in
      let both = parted_total size_of cells_shared b.smallest some (up b rank).hand (load (up b rank).hand - (up b rank).wanted)
      (λ q m. (thin_up rank inside q m).not_empty) in
      omega (arith, given, kept, both)

  -- rank 0 has at most what it wants, where the quotas are all cells
  root_bound : sum_below b.quota b.ranks ≡ sum_below (λ r. load (b.own r)) b.ranks → 0 < b.ranks → load (up b 0).hand ≤ (up b 0).wanted
  root_bound even there =
      let cells_up = up_flow b some solid_own size_of cells_shared in
      let wanted_up = wanted_flow b some solid_own in
      let cells = flow b.ranks (λ r. load (b.own r)) (λ r. load (up b r).kept) (only b.ranks (λ r. load (up b r).given)) (λ r. load (up b r).hand) cells_up in
      let wants = flow b.ranks b.quota (λ r. (up b r).wanted - (up b r).need) (only b.ranks (λ r. (up b r).need)) (λ r. (up b r).wanted) wanted_up in
      let less = sum_le_but_first (λ r. (up b r).wanted - (up b r).need) (λ r. load (up b r).kept) b.ranks
      (λ r inside. omega (arith, need_is b some solid_own r inside, given_load r inside, hand_parts r inside)) there in
      let hand = cells_up.out_all 0 there in
      let wanted = wanted_up.out_all 0 there in
      omega (arith, even, cells, wants, less, hand, wanted)

  -- another rank has at most a grain more than it wants, what it will be given included
  climb_bound : (rank : ℕ) → rank < b.ranks → load (up b rank).kept + (up b rank).need ≤ (up b rank).wanted + grain b.smallest most
  climb_bound rank inside =
      let want = load (up b rank).hand - (up b rank).wanted in
      let given = ap (λ (c : Climb). load c.given) (up_is b rank inside) in
      let kept = ap (λ (c : Climb). load c.kept) (up_is b rank inside) in
      let need = need_is b some solid_own rank inside in
      elim (parted_short b.smallest some most (up b rank).hand want (thin_up rank inside)) [
        | inl short ↦ omega (arith, short, given, need, given_load rank inside, hand_parts rank inside)
        | inr all ↦ let none = ap load all in omega (arith, none, kept, need)
      ]

  hand_bound : sum_below b.quota b.ranks ≡ sum_below (λ r. load (b.own r)) b.ranks → (rank : ℕ) → rank < b.ranks
      → load (stayed b rank ++ got b rank) ≤ (up b rank).wanted + grain b.smallest most
  hand_bound even zero inside =
      let none = ap load (got_root b) in
      omega (arith, total-append size_of (stayed b 0) (got b 0), none, root_bound even inside)
  hand_bound even (suc rank) inside =
      omega (
        arith,
        total-append size_of (stayed b (suc rank)) (got b (suc rank)),
        climb_bound (suc rank) inside,
        got_fits b some (suc rank) inside,
      )

  -- two gifts fall short by a grain each
  gifts : (hand : List Placed) (x y : ℕ) → Each (IsThin most) hand
      → let rest = (given b.smallest hand x).rest in
      let left = (given b.smallest rest y).rest in
      (load left + x + y ≤ load hand + 2 * grain b.smallest most) ⊎ (load left ≡ 0)
  gifts hand x y thin =
      let first = given b.smallest hand x in
      let second = given b.smallest first.rest y in
      let rest_thin = (given_each (IsThin most) (thin_inherits most) (λ q h. h.not_empty) b.smallest some hand x thin).1 in
      let one = given_total size_of cells_shared b.smallest some hand x (λ q m. (thin q m).not_empty) in
      let two = given_total size_of cells_shared b.smallest some first.rest y (λ q m. (rest_thin q m).not_empty) in
      elim (given_short b.smallest some most hand x thin) [
        | inl short ↦ elim (given_short b.smallest some most first.rest y rest_thin) [
          | inl short_too ↦ inl (omega (arith, short, short_too, one, two))
          | inr all ↦ inr (ap load all)
        ]
        | inr all ↦ let none = ap load all in inr (omega (arith, none, two))
      ]

  pub balance_bound : sum_below b.quota b.ranks ≡ sum_below (λ r. load (b.own r)) b.ranks → (rank : ℕ) → rank < b.ranks
      → load (pieces_of b rank) ≤ b.quota rank + 3 * grain b.smallest most
  balance_bound even rank inside =
      let hand = stayed b rank ++ got b rank in
      let thin =
      each_append (IsThin most) (stayed b rank) (got b rank)
      (stayed_each b (IsThin most) (thin_inherits most) (λ q h. h.not_empty) some own rank inside)
      (got_each b (IsThin most) (thin_inherits most) (λ q h. h.not_empty) some own rank inside) in
      let x = (up_of b (first_child b.ranks rank)).need in
      let y = (up_of b (second_child b.ranks rank)).need in
      let is = ap (λ (f : Fall). load f.left) (down_step b rank) in
      let in_order = total-sorted size_of piece_cmp (down b rank).left in
      elim (gifts hand x y thin) [
        | inl most' ↦ omega (arith, most', is, in_order, hand_bound even rank inside, up_wanted b rank inside)
        | inr none ↦ omega (arith, none, is, in_order)
      ]
