-- Rows, planes and boxes of blocks: only those of a span have members that meet a window.
use Rattle.std.proofs.Common.{◌≡◌, ℕ, zero, suc, ◌+◌, ◌-◌, ◌<◌, ◌≤◌, refl, sym, ap, ◌∙◌, append-nil, append_assoc, arith}
use Rattle.std.proofs.lemmas.Int.{ints, clamps}
use Rattle.std.proofs.lemmas.Bool.{false_from_ne_true, cond-false}
use Rattle.std.proofs.lemmas.List.Concat.{flat_map-append}
use Rattle.std.specs.Prelude.{pos, ◌+ℤ◌, ◌-ℤ◌, ◌*ℤ◌, ◌≤ℤ◌, ◌<ℤ◌, List, [], ◌∷◌, ◌++◌, filter}
use Rattle.std.specs.List.{flat_map, range_with_len}
use Rattle.std.specs.Int.{int_min}
use Rattle.samr_box.specs.declared.vector.Axis.TheVariants.{I, J, K}
use Rattle.samr_box.specs.Corners.{Corners, Meet, meets}
use Rattle.samr_box.proofs.CellSets.{Meet-test}
use Rattle.samr_level.specs.Refs.{Owned}
use Rattle.samr_level.specs.Blocks.{place, block_at}
use Rattle.samr_level.specs.Cuts.{Cut, IsSpan, along, member_at, row_in, plane_in}

pub range_split : (a m n : ℕ) → range_with_len a (m + n) ≡ range_with_len a m ++ range_with_len (a + m) n
range_split a zero n = ap (λ (k : ℕ). range_with_len a k) (omega arith) ∙ ap (λ (k : ℕ). range_with_len k n) (omega arith)
range_split a (suc m) n =
    let e : suc m + n ≡ suc (m + n) = omega arith in
    let f : (a + 1) + m ≡ a + suc m = omega arith in
    ap (λ (k : ℕ). range_with_len a k) e
    ∙ ap (λ (l : List ℕ). a ∷ l) (range_split (a + 1) m n ∙ ap (λ (k : ℕ). range_with_len (a + 1) m ++ range_with_len k n) f)

module _ {X : Type 0} (f : ℕ → List X) where
  pub none_of_range : (a n : ℕ) → ((x : ℕ) → a ≤ x → x < a + n → f x ≡ []) → flat_map f (range_with_len a n) ≡ []
  none_of_range a zero h = refl
  none_of_range a (suc n) h =
      ap (λ (l : List X). l ++ flat_map f (range_with_len (a + 1) n)) (h a (omega arith) (omega arith))
      ∙ none_of_range (a + 1) n (λ x p q. h x (omega (arith, p)) (omega (arith, q)))

  -- a loop from `first` to `end` begins with what it has for the numbers before `first`, and ends with what it has for all
  pub range_start : (first : ℕ) (out : List X) → ((x : ℕ) → x < first → f x ≡ []) → out ≡ out ++ flat_map f (range_with_len 0 first)
  range_start first out h =
      sym (ap (λ (l : List X). out ++ l) (none_of_range 0 first (λ x p q. h x (omega (arith, q)))) ∙ append-nil out)

  pub range_end : (end n : ℕ) (before out : List X) → end ≤ n → ((x : ℕ) → end ≤ x → x < n → f x ≡ []) → out ≡ before ++ flat_map f (range_with_len 0 end)
      → out ≡ before ++ flat_map f (range_with_len 0 n)
  range_end end n before out up h so_far =
      let rest : n ≡ end + (n - end) = omega arith in
      so_far
      ∙ ap (λ (l : List X). before ++ l)
      (sym
      (ap (λ (k : ℕ). flat_map f (range_with_len 0 k)) rest
      ∙ ap (flat_map f) (range_split 0 end (n - end))
      ∙ flat_map-append f (range_with_len 0 end) (range_with_len (0 + end) (n - end))
      ∙ ap (λ (l : List X). flat_map f (range_with_len 0 end) ++ l)
      (none_of_range (0 + end) (n - end) (λ x p q. h x (omega (arith, p)) (omega (arith, q))))
      ∙ append-nil (flat_map f (range_with_len 0 end))))

  range_one_more : (n : ℕ) → flat_map f (range_with_len 0 (n + 1)) ≡ flat_map f (range_with_len 0 n) ++ f n
  range_one_more n =
      ap (flat_map f) (range_split 0 n 1)
      ∙ flat_map-append f (range_with_len 0 n) (range_with_len (0 + n) 1)
      ∙ ap (λ (l : List X). flat_map f (range_with_len 0 n) ++ l) (append-nil (f (0 + n)) ∙ ap f (omega arith))

  pub range_more : (n : ℕ) (before now next : List X) → next ≡ now ++ f n → now ≡ before ++ flat_map f (range_with_len 0 n)
      → next ≡ before ++ flat_map f (range_with_len 0 (n + 1))
  range_more n before now next step so_far =
      step ∙ ap (λ (l : List X). l ++ f n) so_far ∙ append_assoc before (flat_map f (range_with_len 0 n)) (f n)
      ∙ ap (λ (l : List X). before ++ l) (sym (range_one_more n))

-- a block beside a window on an axis does not meet it
beside : (w : Corners) (c : Cut) (x y z : ℕ) → (Meet w (block_at c.block c.bx (place x y z)) → ⊥) → filter (λ b. meets w b.bx) (member_at c x y z ∷ []) ≡ []
unfolding member_at
beside w c x y z apart =
    cond-false (meets w (block_at c.block c.bx (place x y z))) (member_at c x y z ∷ []) []
    (false_from_ne_true (meets w (block_at c.block c.bx (place x y z))) (λ t. apart (Meet-test t)))

-- where its place on an axis lies outside a span
below_i : (w : Corners) (c : Cut) (x y z first end : ℕ) → IsSpan I c.block c.bx w first end → x < first → Meet w (block_at c.block c.bx (place x y z)) → ⊥
unfolding block_at
below_i w c x y z first end s h m =
    let near : w.lo.i ≤ℤ int_min c.bx.hi.i ((c.bx.lo.i +ℤ (pos x *ℤ c.block.i)) +ℤ (c.block.i -ℤ pos 1)) = m.low.i in
    let far : ((c.bx.lo.i +ℤ (pos x *ℤ c.block.i)) +ℤ (c.block.i -ℤ pos 1)) <ℤ w.lo.i = s.below x h in
    omega (arith, ints, clamps, near, far)

above_i : (w : Corners) (c : Cut) (x y z first end : ℕ) → IsSpan I c.block c.bx w first end → end ≤ x → x < along I c → Meet w (block_at c.block c.bx (place x y z)) → ⊥
unfolding block_at
above_i w c x y z first end s h g m =
    let near : (c.bx.lo.i +ℤ (pos x *ℤ c.block.i)) ≤ℤ w.hi.i = m.high.i in
    let far : w.hi.i <ℤ (c.bx.lo.i +ℤ (pos x *ℤ c.block.i)) = s.above x h g in
    omega (arith, ints, near, far)

below_j : (w : Corners) (c : Cut) (x y z first end : ℕ) → IsSpan J c.block c.bx w first end → y < first → Meet w (block_at c.block c.bx (place x y z)) → ⊥
unfolding block_at
below_j w c x y z first end s h m =
    let near : w.lo.j ≤ℤ int_min c.bx.hi.j ((c.bx.lo.j +ℤ (pos y *ℤ c.block.j)) +ℤ (c.block.j -ℤ pos 1)) = m.low.j in
    let far : ((c.bx.lo.j +ℤ (pos y *ℤ c.block.j)) +ℤ (c.block.j -ℤ pos 1)) <ℤ w.lo.j = s.below y h in
    omega (arith, ints, clamps, near, far)

above_j : (w : Corners) (c : Cut) (x y z first end : ℕ) → IsSpan J c.block c.bx w first end → end ≤ y → y < along J c → Meet w (block_at c.block c.bx (place x y z)) → ⊥
unfolding block_at
above_j w c x y z first end s h g m =
    let near : (c.bx.lo.j +ℤ (pos y *ℤ c.block.j)) ≤ℤ w.hi.j = m.high.j in
    let far : w.hi.j <ℤ (c.bx.lo.j +ℤ (pos y *ℤ c.block.j)) = s.above y h g in
    omega (arith, ints, near, far)

below_k : (w : Corners) (c : Cut) (x y z first end : ℕ) → IsSpan K c.block c.bx w first end → z < first → Meet w (block_at c.block c.bx (place x y z)) → ⊥
unfolding block_at
below_k w c x y z first end s h m =
    let near : w.lo.k ≤ℤ int_min c.bx.hi.k ((c.bx.lo.k +ℤ (pos z *ℤ c.block.k)) +ℤ (c.block.k -ℤ pos 1)) = m.low.k in
    let far : ((c.bx.lo.k +ℤ (pos z *ℤ c.block.k)) +ℤ (c.block.k -ℤ pos 1)) <ℤ w.lo.k = s.below z h in
    omega (arith, ints, clamps, near, far)

above_k : (w : Corners) (c : Cut) (x y z first end : ℕ) → IsSpan K c.block c.bx w first end → end ≤ z → z < along K c → Meet w (block_at c.block c.bx (place x y z)) → ⊥
unfolding block_at
above_k w c x y z first end s h g m =
    let near : (c.bx.lo.k +ℤ (pos z *ℤ c.block.k)) ≤ℤ w.hi.k = m.high.k in
    let far : w.hi.k <ℤ (c.bx.lo.k +ℤ (pos z *ℤ c.block.k)) = s.above z h g in
    omega (arith, ints, near, far)

abbrev pub member_in : Corners → Cut → ℕ → ℕ → ℕ → List Owned
member_in w c y z x = filter (λ b. meets w b.bx) (member_at c x y z ∷ [])

module _ (w : Corners) (c : Cut) (first end : ℕ) where
  pub member_below : (y z x : ℕ) → IsSpan I c.block c.bx w first end → x < first → member_in w c y z x ≡ []
  member_below y z x s h = beside w c x y z (below_i w c x y z first end s h)

  pub member_above : (y z x : ℕ) → IsSpan I c.block c.bx w first end → end ≤ x → x < along I c → member_in w c y z x ≡ []
  member_above y z x s h g = beside w c x y z (above_i w c x y z first end s h g)

  pub row_below : (z y : ℕ) → IsSpan J c.block c.bx w first end → y < first → row_in w c y z ≡ []
  unfolding row_in
  row_below z y s h = none_of_range (member_in w c y z) 0 (along I c) (λ x p q. beside w c x y z (below_j w c x y z first end s h))

  pub row_above : (z y : ℕ) → IsSpan J c.block c.bx w first end → end ≤ y → y < along J c → row_in w c y z ≡ []
  unfolding row_in
  row_above z y s h g = none_of_range (member_in w c y z) 0 (along I c) (λ x p q. beside w c x y z (above_j w c x y z first end s h g))

  pub plane_below : (z : ℕ) → IsSpan K c.block c.bx w first end → z < first → plane_in w c z ≡ []
  unfolding plane_in row_in
  plane_below z s h =
      none_of_range (λ y. row_in w c y z) 0 (along J c)
      (λ y p q. none_of_range (member_in w c y z) 0 (along I c) (λ x r t. beside w c x y z (below_k w c x y z first end s h)))

  pub plane_above : (z : ℕ) → IsSpan K c.block c.bx w first end → end ≤ z → z < along K c → plane_in w c z ≡ []
  unfolding plane_in row_in
  plane_above z s h g =
      none_of_range (λ y. row_in w c y z) 0 (along J c)
      (λ y p q. none_of_range (member_in w c y z) 0 (along I c) (λ x r t. beside w c x y z (above_k w c x y z first end s h g)))
