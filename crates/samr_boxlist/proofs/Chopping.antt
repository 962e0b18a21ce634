-- Boxes in pieces along an axis.
use Rattle.std.proofs.Common.{◌≡◌, ℕ, zero, suc, ◌+◌, ◌/◌, ◌%◌, ◌<◌, ◌≤◌, refl, sym, ap, ◌∙◌, subst, inl, inr, arith, append_assoc}
use Rattle.std.proofs.Math.Nat.{add-div_right, add-mod_right, div_self, mod_self, div-eq_of_lt, mod-eq_of_lt}
use Rattle.std.proofs.lemmas.Bool.{cases_order, and_from, and_parts, not-true, not_from_false}
use Rattle.std.proofs.lemmas.Int.{ints, clamps}
use Rattle.std.specs.Prelude.{ℤ, pos, ◌+ℤ◌, ◌≤ℤ◌, ◌<ℤ◌, int_lt, Bool, true, false, not, ◌&&◌, List, [], ◌∷◌, ◌++◌, map, ◌↔◌}
use Rattle.std.specs.List.{range_with_len}
use Rattle.std.specs.Int.{int_min, div_ceil}
use Rattle.samr_box.specs.declared.vector.Axis.{Axis}
use Rattle.samr_box.specs.declared.vector.Axis.TheVariants.{I, J, K}
use Rattle.samr_box.specs.declared.vector.IVec.{IVec}
use Rattle.samr_box.specs.Vector.{at, put}
use Rattle.samr_box.specs.Corners.{Corners, IsBox, Holds, holds, span, before, from_plane}
use Rattle.samr_box.proofs.Vectors.{put-at, AtMost-at}
use Rattle.samr_box.proofs.Totals.{same_corners}
use Rattle.samr_box.proofs.CellSets.{holds-from, Holds-test}
use Rattle.samr_box.proofs.Ranges.{IsBox-put_hi}
use Rattle.samr_box.proofs.Slabs.{plane-inside}
use Rattle.samr_boxlist.specs.Covers.{cover}
use Rattle.samr_boxlist.specs.Pieces.{piece, pieces}
use Rattle.samr_boxlist.proofs.Covering.{one, same_test, cover-append, cover-single}

-- how many pieces there are
ceil_last : (s m : ℕ) → 0 < s → s ≤ m → div_ceil s m ≡ 1
ceil_last s m p q =
    elim (cases_order s m) [
      | inl same ↦ rw same (rw (div_self (subst (λ (n : ℕ). 0 < n) same p), mod_self m) (omega arith))
      | inr other ↦ elim other [
        | inl less ↦ rw (div-eq_of_lt less, mod-eq_of_lt less) (omega arith)
        | inr more ↦ absurd (omega arith)
      ]
    ]

ceil_step : (s m : ℕ) → 0 < m → div_ceil (s + m) m ≡ suc (div_ceil s m)
ceil_step s m p =
    let d : (s + m) / m ≡ s / m + 1 = add-div_right s p in
    let r : (s + m) % m ≡ s % m = add-mod_right s m in
    rw (d, r) (omega arith)

pub span-rest : (axis : Axis) (b : Corners) (most : ℕ) → at axis b.lo ≤ℤ at axis b.hi → most < span axis b
    → span axis (from_plane axis b (at axis b.lo +ℤ pos most)) + most ≡ span axis b
span-rest I b most full more = omega (arith, ints, full, more)
span-rest J b most full more = omega (arith, ints, full, more)
span-rest K b most full more = omega (arith, ints, full, more)

piece-first : (axis : Axis) (b : Corners) (most : ℕ) → at axis b.lo ≤ℤ at axis b.hi → most < span axis b
    → piece axis most b 0 ≡ before axis b (at axis b.lo +ℤ pos most)
piece-first axis b most full more =
    same_corners
    (ap (put axis b.lo) (omega (arith, ints)) ∙ put-at axis b.lo)
    (ap (put axis b.hi) (omega (arith, ints, clamps, full, more)))

piece-only : (axis : Axis) (b : Corners) (most : ℕ) → at axis b.lo ≤ℤ at axis b.hi → span axis b ≤ most → piece axis most b 0 ≡ b
piece-only axis b most full few =
    same_corners
    (ap (put axis b.lo) (omega (arith, ints)) ∙ put-at axis b.lo)
    (ap (put axis b.hi) (omega (arith, ints, clamps, full, few)) ∙ put-at axis b.hi)

piece-next : (axis : Axis) (b : Corners) (most p : ℕ)
    → piece axis most b (p + 1) ≡ piece axis most (from_plane axis b (at axis b.lo +ℤ pos most)) p
piece-next I b most p = same_corners (ap (put I b.lo) (omega (arith, ints))) (ap (put I b.hi) (ap (int_min b.hi.i) (omega (arith, ints))))
piece-next J b most p = same_corners (ap (put J b.lo) (omega (arith, ints))) (ap (put J b.hi) (ap (int_min b.hi.j) (omega (arith, ints))))
piece-next K b most p = same_corners (ap (put K b.lo) (omega (arith, ints))) (ap (put K b.hi) (ap (int_min b.hi.k) (omega (arith, ints))))

numbered : (f g : ℕ → Corners) → ((p : ℕ) → f (p + 1) ≡ g p) → (n a : ℕ) → map f (range_with_len (a + 1) n) ≡ map g (range_with_len a n)
numbered f g same zero a = refl
numbered f g same (suc n) a =
    ap (λ v. v ∷ map f (range_with_len ((a + 1) + 1) n)) (same a) ∙ ap (λ l. g a ∷ l) (numbered f g same n (a + 1))

pub pieces-last : (axis : Axis) (b : Corners) (most : ℕ) → at axis b.lo ≤ℤ at axis b.hi → span axis b ≤ most → pieces axis most b ≡ b ∷ []
unfolding pieces
pieces-last axis b most full few =
    ap (λ n. map (piece axis most b) (range_with_len 0 n)) (ceil_last (span axis b) most (omega (arith, ints, full)) few)
    ∙ ap (λ v. v ∷ []) (piece-only axis b most full few)

pub pieces-step : (axis : Axis) (b : Corners) (most : ℕ) → 0 < most → at axis b.lo ≤ℤ at axis b.hi → most < span axis b
    → pieces axis most b ≡ before axis b (at axis b.lo +ℤ pos most) ∷ pieces axis most (from_plane axis b (at axis b.lo +ℤ pos most))
unfolding pieces
pieces-step axis b most some full more =
    let count : div_ceil (span axis b) most ≡ suc (div_ceil (span axis (from_plane axis b (at axis b.lo +ℤ pos most))) most) =
    ap (λ n. div_ceil n most) (sym (span-rest axis b most full more)) ∙ ceil_step (span axis (from_plane axis b (at axis b.lo +ℤ pos most))) most some in
    ap (λ n. map (piece axis most b) (range_with_len 0 n)) count
    ∙ ap (λ v. v ∷ map (piece axis most b) (range_with_len (0 + 1) (div_ceil (span axis (from_plane axis b (at axis b.lo +ℤ pos most))) most)))
    (piece-first axis b most full more)
    ∙ ap (λ l. before axis b (at axis b.lo +ℤ pos most) ∷ l)
    (numbered (piece axis most b) (piece axis most (from_plane axis b (at axis b.lo +ℤ pos most))) (piece-next axis b most)
    (div_ceil (span axis (from_plane axis b (at axis b.lo +ℤ pos most))) most) 0)

two_parts : (t low : Bool) → one (t && low) + one (t && not low) ≡ one t
two_parts true true = refl
two_parts true false = refl
two_parts false low = refl

lt_true : {a b : ℤ} → a <ℤ b → int_lt a b ≡ true
lt_true h = grind (arith, ints, h)

lt_test : (a b : ℤ) → int_lt a b ≡ true → a <ℤ b
lt_test a b t = grind (arith, ints, t)

lt_false : {a b : ℤ} → b ≤ℤ a → int_lt a b ≡ false
lt_false h = grind (arith, ints, h)

le_test : (a b : ℤ) → int_lt a b ≡ false → b ≤ℤ a
le_test a b t = grind (arith, ints, t)

-- the two parts of a box have its cells, each once
pub split-cover : (x : IVec) (axis : Axis) (b first rest : Corners) (plane : ℤ)
    → (Holds first x ↔ (Holds b x × (at axis x <ℤ plane))) → (Holds rest x ↔ (Holds b x × (plane ≤ℤ at axis x)))
    → one (holds first x) + one (holds rest x) ≡ one (holds b x)
split-cover x axis b first rest plane f r =
    let low : holds first x ≡ (holds b x && int_lt (at axis x) plane) =
    same_test (holds first x) (holds b x && int_lt (at axis x) plane)
    (λ t. let p = f.0 (Holds-test t) in and_from (holds b x) (int_lt (at axis x) plane) (holds-from p.0) (lt_true p.1))
    (λ t. let p = and_parts (holds b x) (int_lt (at axis x) plane) t in holds-from (f.1 (Holds-test p.0, lt_test (at axis x) plane p.1))) in
    let high : holds rest x ≡ (holds b x && not (int_lt (at axis x) plane)) =
    same_test (holds rest x) (holds b x && not (int_lt (at axis x) plane))
    (λ t. let p = r.0 (Holds-test t) in
    and_from (holds b x) (not (int_lt (at axis x) plane)) (holds-from p.0) (not_from_false (int_lt (at axis x) plane) (lt_false p.1)))
    (λ t. let p = and_parts (holds b x) (not (int_lt (at axis x) plane)) t in
    holds-from (r.1 (Holds-test p.0, le_test (at axis x) plane (not-true (int_lt (at axis x) plane) p.1)))) in
    rw (low, high) (two_parts (holds b x) (int_lt (at axis x) plane))

-- the parts are boxes
pub IsBox-first : (axis : Axis) (b : Corners) (most : ℕ) → IsBox b → 0 < most → most < span axis b → IsBox (before axis b (at axis b.lo +ℤ pos most))
IsBox-first axis b most h some more =
    let p = plane-inside axis b most h.order some more in
    IsBox-put_hi axis h (omega (arith, ints, p.0)) (omega (arith, ints, p.1))

-- a step of chopping: the first piece, and the pieces of the rest
module _ (axis : Axis) (b first rest : Corners) (most : ℕ) (some : 0 < most) (whole : IsBox b) (more : most < span axis b)
    (is_first : first ≡ before axis b (at axis b.lo +ℤ pos most)) (is_rest : rest ≡ from_plane axis b (at axis b.lo +ℤ pos most)) where
  pub span_less : span axis rest < span axis b
  span_less =
      let e = ap (span axis) is_rest in
      let s = span-rest axis b most (AtMost-at axis whole.order) more in
      omega (arith, e, s, some)

  pub pieces-go_on : (parts parts' done : List Corners) → parts' ≡ parts ++ first ∷ []
      → parts ++ pieces axis most b ≡ done → parts' ++ pieces axis most rest ≡ done
  pieces-go_on parts parts' done pushed before_it =
      ap (λ l. l ++ pieces axis most rest) pushed
      ∙ append_assoc parts (first ∷ []) (pieces axis most rest)
      ∙ ap (λ l. parts ++ l)
      (ap (λ v. v ∷ pieces axis most rest) is_first
      ∙ ap (λ v. before axis b (at axis b.lo +ℤ pos most) ∷ pieces axis most v) is_rest
      ∙ sym (pieces-step axis b most some (AtMost-at axis whole.order) more))
      ∙ before_it

  pub IsBox-piece : IsBox first
  IsBox-piece = subst IsBox (sym is_first) (IsBox-first axis b most whole some more)

pub cover-go_on : (x : IVec) (b first rest : Corners) (parts parts' : List Corners) (total : ℕ)
    → one (holds first x) + one (holds rest x) ≡ one (holds b x) → parts' ≡ parts ++ first ∷ []
    → cover x parts + cover x (b ∷ []) ≡ total → cover x parts' + cover x (rest ∷ []) ≡ total
cover-go_on x b first rest parts parts' total split pushed before_it =
    let e = ap (cover x) pushed in
    omega (arith, e, cover-append x parts (first ∷ []), cover-single x first, cover-single x rest, cover-single x b, split, before_it)
