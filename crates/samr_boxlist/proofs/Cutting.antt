-- What is left of boxes where other boxes are taken away.
use Rattle.std.proofs.Common.{◌≡◌, ℕ, ◌+◌, ◌<◌, refl, sym, ap, ◌∙◌, subst, inl, inr, arith, append_assoc}
use Rattle.std.proofs.lemmas.Int.{ints}
use Rattle.std.proofs.lemmas.List.Elements.{All-head}
use Rattle.std.proofs.lemmas.Bool.{eqb-true, and_from, and_parts, not-true, not_from_false, false≢true}
use Rattle.std.specs.Prelude.{ℤ, pos, ◌+ℤ◌, ◌≤ℤ◌, ◌<ℤ◌, int_lt, Bool, true, false, cond, not, ◌&&◌, ◌||◌, List, [], ◌∷◌, ◌++◌, Some, None, IsTrue, ◌↔◌, ◌==◌, length}
use Rattle.std.specs.List.{All}
use Rattle.std.specs.Option.{option_to_list}
use Rattle.samr_box.specs.declared.vector.Axis.{Axis}
use Rattle.samr_box.specs.declared.vector.Axis.TheVariants.{I, J, K}
use Rattle.samr_box.specs.declared.vector.IVec.{IVec}
use Rattle.samr_box.specs.Vector.{at, AtMost}
use Rattle.samr_box.specs.Corners.{Corners, IsBox, Holds, Meet, holds, meets, common, before, from_plane, below, above, level}
use Rattle.samr_box.specs.Lists.{Member}
use Rattle.samr_box.proofs.Vectors.{AtMost-at}
use Rattle.samr_box.proofs.CellSets.{holds-from, Holds-test, Holds-lo, Meet-test, meets-from, Meet-cell, Holds-common, Holds-below, Holds-above, Holds-level}
use Rattle.samr_box.proofs.Slabs.{IsBox-below, IsBox-above, IsBox-level, Meet-level}
use Rattle.samr_box.proofs.Members.{All-from_members, Member-from_append, Member-from_flat_map}
use Rattle.samr_boxlist.specs.Covers.{cover, held}
use Rattle.samr_boxlist.specs.Slabs.{slabs, without, subtracted}
use Rattle.samr_boxlist.proofs.Covering.{one, same_test, cover-append, cover-cons, cover-single, cover-option, cover-flat_map}

lt_true : {a b : ℤ} → a <ℤ b → int_lt a b ≡ true
lt_true h = grind (arith, ints, h)

lt_test : (a b : ℤ) → int_lt a b ≡ true → a <ℤ b
lt_test a b t = grind (arith, ints, t)

lt_false : {a b : ℤ} → b ≤ℤ a → int_lt a b ≡ false
lt_false h = grind (arith, ints, h)

le_test : (a b : ℤ) → int_lt a b ≡ false → b ≤ℤ a
le_test a b t = grind (arith, ints, t)

-- a test that holds of three parts, of which the first two exclude each other
three_parts : (t low high : Bool) → (low ≡ true → high ≡ true → ⊥)
    → (one (t && low) + one (t && high)) + one (t && (not low && not high)) ≡ one t
three_parts false low high apart = refl
three_parts true true true apart = absurd (apart refl refl)
three_parts true true false apart = refl
three_parts true false true apart = refl
three_parts true false false apart = refl

-- a box is its slab below another box, its slab above it and the part level with it
slabs-cover : (x : IVec) (axis : Axis) (a b : Corners) → AtMost b.lo b.hi → Meet a b
    → cover x (slabs axis a b) + one (holds (level axis a b) x) ≡ one (holds a x)
slabs-cover x axis a b full m =
    let low = int_lt (at axis x) (at axis b.lo) in
    let high = int_lt (at axis b.hi) (at axis x) in
    let under = Holds-below axis a b m x in
    let over = Holds-above axis a b m x in
    let middle = Holds-level axis a b x in
    let inside : at axis b.lo ≤ℤ at axis b.hi = AtMost-at axis full in
    let c_under : cover x (option_to_list (below axis a b)) ≡ one (holds a x && int_lt (at axis x) (at axis b.lo)) =
    cover-option x (below axis a b) (holds a x && int_lt (at axis x) (at axis b.lo)) (
      λ p. let q = under.0 p in and_from (holds a x) (int_lt (at axis x) (at axis b.lo)) (holds-from q.0) (lt_true q.1),
      λ t. let p = and_parts (holds a x) (int_lt (at axis x) (at axis b.lo)) t in under.1 (Holds-test p.0, lt_test (at axis x) (at axis b.lo) p.1),
    ) in
    let c_over : cover x (option_to_list (above axis a b)) ≡ one (holds a x && int_lt (at axis b.hi) (at axis x)) =
    cover-option x (above axis a b) (holds a x && int_lt (at axis b.hi) (at axis x)) (
      λ p. let q = over.0 p in and_from (holds a x) (int_lt (at axis b.hi) (at axis x)) (holds-from q.0) (lt_true q.1),
      λ t. let p = and_parts (holds a x) (int_lt (at axis b.hi) (at axis x)) t in over.1 (Holds-test p.0, lt_test (at axis b.hi) (at axis x) p.1),
    ) in
    let c_middle : holds (level axis a b) x ≡ (holds a x && (not (int_lt (at axis x) (at axis b.lo)) && not (int_lt (at axis b.hi) (at axis x)))) =
    same_test (holds (level axis a b) x) (holds a x && (not (int_lt (at axis x) (at axis b.lo)) && not (int_lt (at axis b.hi) (at axis x))))
    (λ t. let q = middle.0 (Holds-test t) in
    and_from (holds a x) (not (int_lt (at axis x) (at axis b.lo)) && not (int_lt (at axis b.hi) (at axis x))) (holds-from q.0)
    (and_from (not (int_lt (at axis x) (at axis b.lo))) (not (int_lt (at axis b.hi) (at axis x)))
    (not_from_false (int_lt (at axis x) (at axis b.lo)) (lt_false q.1))
    (not_from_false (int_lt (at axis b.hi) (at axis x)) (lt_false q.2))))
    (λ t.
    let p = and_parts (holds a x) (not (int_lt (at axis x) (at axis b.lo)) && not (int_lt (at axis b.hi) (at axis x))) t in
    let q = and_parts (not (int_lt (at axis x) (at axis b.lo))) (not (int_lt (at axis b.hi) (at axis x))) p.1 in
    holds-from (middle.1 (
      Holds-test p.0,
      le_test (at axis x) (at axis b.lo) (not-true (int_lt (at axis x) (at axis b.lo)) q.0),
      le_test (at axis b.hi) (at axis x) (not-true (int_lt (at axis b.hi) (at axis x)) q.1),
    ))) in
    let apart : int_lt (at axis x) (at axis b.lo) ≡ true → int_lt (at axis b.hi) (at axis x) ≡ true → ⊥ =
    λ p q.
    let less = lt_test (at axis x) (at axis b.lo) p in
    let more = lt_test (at axis b.hi) (at axis x) q in
    absurd (omega (arith, ints, inside, less, more)) in
    let total = three_parts (holds a x) (int_lt (at axis x) (at axis b.lo)) (int_lt (at axis b.hi) (at axis x)) apart in
    let sum = cover-append x (option_to_list (below axis a b)) (option_to_list (above axis a b)) in
    let m_one = ap one c_middle in
    omega (arith, sum, c_under, c_over, m_one, total)

-- the cells of a box without another
both_or_rest : (s t : Bool) (n : ℕ) → n + one (s && t) ≡ one s → n ≡ cond t 0 (one s)
both_or_rest true true n e = omega (arith, e)
both_or_rest true false n e = omega (arith, e)
both_or_rest false true n e = omega (arith, e)
both_or_rest false false n e = omega (arith, e)

apart_rest : (s t : Bool) → (s ≡ true → t ≡ true → ⊥) → one s ≡ cond t 0 (one s)
apart_rest true true f = absurd (f refl refl)
apart_rest true false f = refl
apart_rest false true f = refl
apart_rest false false f = refl

same_common : (a b : Corners) (x : IVec) → holds (common a b) x ≡ (holds a x && holds b x)
same_common a b x =
    let h = Holds-common a b x in
    same_test (holds (common a b) x) (holds a x && holds b x)
    (λ t. let p = h.0 (Holds-test t) in and_from (holds a x) (holds b x) (holds-from p.0) (holds-from p.1))
    (λ t. let p = and_parts (holds a x) (holds b x) t in holds-from (h.1 (Holds-test p.0, Holds-test p.1)))

pub cover-without : (x : IVec) (a b : Corners) → AtMost b.lo b.hi → cover x (without a b) ≡ cond (holds b x) 0 (one (holds a x))
unfolding without
cover-without x a b full = by_test (meets a b) refl
  where
    by_test : (t : Bool) → meets a b ≡ t
        → cover x (cond t (slabs I a b ++ slabs J (level I a b) b ++ slabs K (level J (level I a b) b) b) (a ∷ [])) ≡ cond (holds b x) 0 (one (holds a x))
    by_test true e =
        let m_i = Meet-test {a = a} {b = b} e in
        let m_j = Meet-level I a b full m_i in
        let m_k = Meet-level J (level I a b) b full m_j in
        let c_i = slabs-cover x I a b full m_i in
        let c_j = slabs-cover x J (level I a b) b full m_j in
        let c_k = slabs-cover x K (level J (level I a b) b) b full m_k in
        let s_ij = cover-append x (slabs I a b) (slabs J (level I a b) b) in
        let s_k = cover-append x (slabs I a b ++ slabs J (level I a b) b) (slabs K (level J (level I a b) b) b) in
        let last = ap one (same_common a b x) in
        both_or_rest (holds a x) (holds b x)
        (cover x (slabs I a b ++ slabs J (level I a b) b ++ slabs K (level J (level I a b) b) b))
        (omega (arith, c_i, c_j, c_k, s_ij, s_k, last))
    by_test false e =
        cover-single x a ∙ apart_rest (holds a x) (holds b x)
        (λ p q. false≢true (sym e ∙ meets-from (Meet-cell {a = a} {b = b} {x = x} (Holds-test p) (Holds-test q))))

pub cover-subtracted : (x : IVec) (list : List Corners) (b : Corners) → ((a : Corners) → Member a list → AtMost b.lo b.hi)
    → cover x (subtracted list b) ≡ cond (holds b x) 0 (cover x list)
cover-subtracted x list b full = cover-flat_map x (holds b x) (λ a. without a b) list (λ a m. cover-without x a b (full a m))

-- what is left are boxes
module _ (axis : Axis) (a b : Corners) (p : IsBox a) (m : Meet a b) where
  IsBox-slab_below : (s : Corners) → Member s (option_to_list (below axis a b)) → IsBox s
  IsBox-slab_below s = by_test (int_lt (at axis a.lo) (at axis b.lo)) refl
    where
      by_test : (t : Bool) → int_lt (at axis a.lo) (at axis b.lo) ≡ t → Member s (option_to_list (cond t (Some (before axis a (at axis b.lo))) None)) → IsBox s
      by_test true e (inl same) = subst IsBox (sym same) (IsBox-below axis a b p m e)
      by_test true e (inr none) = absurd none
      by_test false e none = absurd none

  IsBox-slab_above : (s : Corners) → Member s (option_to_list (above axis a b)) → IsBox s
  IsBox-slab_above s = by_test (int_lt (at axis b.hi) (at axis a.hi)) refl
    where
      by_test : (t : Bool) → int_lt (at axis b.hi) (at axis a.hi) ≡ t → Member s (option_to_list (cond t (Some (from_plane axis a (at axis b.hi +ℤ pos 1))) None)) → IsBox s
      by_test true e (inl same) = subst IsBox (sym same) (IsBox-above axis a b p m e)
      by_test true e (inr none) = absurd none
      by_test false e none = absurd none

  IsBox-slabs : (s : Corners) → Member s (slabs axis a b) → IsBox s
  IsBox-slabs s h =
      elim (Member-from_append s (option_to_list (below axis a b)) (option_to_list (above axis a b)) h) [
        | inl under ↦ IsBox-slab_below s under
        | inr over ↦ IsBox-slab_above s over
      ]

pub IsBox-without : (a b : Corners) → IsBox a → IsBox b → (s : Corners) → Member s (without a b) → IsBox s
unfolding without
IsBox-without a b p q s = by_test (meets a b) refl
  where
    by_test : (t : Bool) → meets a b ≡ t
        → Member s (cond t (slabs I a b ++ slabs J (level I a b) b ++ slabs K (level J (level I a b) b) b) (a ∷ [])) → IsBox s
    by_test true e h =
        let m_i = Meet-test {a = a} {b = b} e in
        let m_j = Meet-level I a b q.order m_i in
        let m_k = Meet-level J (level I a b) b q.order m_j in
        let p_j = IsBox-level I a b p q m_i in
        let p_k = IsBox-level J (level I a b) b p_j q m_j in
        elim (Member-from_append s (slabs I a b ++ slabs J (level I a b) b) (slabs K (level J (level I a b) b) b) h) [
          | inl first ↦ elim (Member-from_append s (slabs I a b) (slabs J (level I a b) b) first) [
            | inl on_i ↦ IsBox-slabs I a b p m_i s on_i
            | inr on_j ↦ IsBox-slabs J (level I a b) b p_j m_j s on_j
          ]
          | inr on_k ↦ IsBox-slabs K (level J (level I a b) b) b p_k m_k s on_k
        ]
    by_test false e (inl same) = subst IsBox (sym same) p
    by_test false e (inr none) = absurd none

pub IsBox-subtracted : (list : List Corners) (b : Corners) → ((a : Corners) → Member a list → IsBox a × IsBox b)
    → (s : Corners) → Member s (subtracted list b) → IsBox s
IsBox-subtracted list b each s h =
    let r = Member-from_flat_map (λ a. without a b) s list h in
    let p = each r.0 r.1 in
    IsBox-without r.0 b p.0 p.1 s r.2

-- two boxes taken away one after the other
pub cond_twice : (s t : Bool) (n : ℕ) → cond s 0 (cond t 0 n) ≡ cond (t || s) 0 n
cond_twice true true n = refl
cond_twice true false n = refl
cond_twice false true n = refl
cond_twice false false n = refl

pub without-apart : (a b : Corners) → meets a b ≡ false → without a b ≡ a ∷ []
unfolding without
without-apart a b e = rw e

pub without-from_cuts : (a b r1 r2 : Corners) (out o1 o2 o3 : List Corners) → meets a b ≡ true → r1 ≡ level I a b → r2 ≡ level J r1 b
    → o1 ≡ out ++ slabs I a b → o2 ≡ o1 ++ slabs J r1 b → o3 ≡ o2 ++ slabs K r2 b → o3 ≡ out ++ without a b
unfolding without
without-from_cuts a b r1 r2 out o1 o2 o3 e q1 q2 p1 p2 p3 =
    rw (p3, p2, p1, q2, q1, e) (simp append_assoc)

-- a box is covered exactly where nothing of it is left
pub covers-means : (b : Corners) (list left : List Corners) → AtMost b.lo b.hi → All IsBox left
    → ((x : IVec) → cover x left ≡ cond (held x list) 0 (cover x (b ∷ [])))
    → IsTrue (length left == 0) ↔ ((x : IVec) → Holds b x → IsTrue (held x list))
covers-means b list [] full boxes each = (λ t x h. covered x (held x list) (each x) (ap one (holds-from h)), λ f. refl)
  where
    covered : (x : IVec) (t : Bool) → 0 ≡ cond t 0 (cover x (b ∷ [])) → one (holds b x) ≡ 1 → t ≡ true
    covered x true e h = refl
    covered x false e h = absurd (omega (arith, e, h, cover-single x b))
covers-means b list (m ∷ ms) full boxes each = (
  λ t. absurd (omega (arith, eqb-true (length (m ∷ ms)) 0 t)),
  λ f.
      let whole = (All-head IsBox m ms boxes).order in
      let own = ap one (holds-from (Holds-lo {b = m} whole)) in
      absurd (left_over m.lo (held m.lo list) refl (holds b m.lo) refl (each m.lo) (omega (arith, cover-cons m.lo m ms, own)) f),
)
  where
    left_over : (x : IVec) (t : Bool) → held x list ≡ t → (s : Bool) → holds b x ≡ s → cover x (m ∷ ms) ≡ cond (held x list) 0 (cover x (b ∷ [])) → 0 < cover x (m ∷ ms)
        → ((y : IVec) → Holds b y → IsTrue (held y list)) → ⊥
    left_over x true e s k c some f = absurd (omega (arith, rw e at c, some))
    left_over x false e true k c some f = false≢true (sym e ∙ f x (Holds-test k))
    left_over x false e false k c some f =
        let none : cover x (m ∷ ms) ≡ cover x (b ∷ []) = rw e at c in
        absurd (omega (arith, none, some, cover-single x b, ap one k))

pub All_single : (b : Corners) → IsBox b → All IsBox (b ∷ [])
All_single b h = All-from_members IsBox (b ∷ []) (λ m p. elim p [ inl same ↦ subst IsBox (sym same) h | inr none ↦ absurd none ])
