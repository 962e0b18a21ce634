-- Products and lengths that stop at a bound.
use Rattle.std.proofs.Common.{◌≡◌, ◌∙◌, ap, sym, refl, ℕ, zero, suc, ◌+◌, ◌-◌, ◌*◌, ◌<◌, ◌≤◌, ◌^◌, ℤ, pos, min, List, fold, take, length, get_or, nat_lt, nat_le, unsigned_abs, ◌&&◌, inl, inr, arith}
use Rattle.std.proofs.Math.Nat.{mul-le-mul_left, mul-le-mul_right}
use Rattle.std.proofs.lemmas.Bool.{cases_lt, lt-ltb, le-ltb, le-leb, lt-leb}
use Rattle.std.specs.Prelude.{int_le}
use Rattle.std.proofs.lemmas.List.Sums.{fold_more}
use Rattle.samr_box.specs.declared.vector.IVec.{IVec}
use Rattle.samr_problem.specs.declared.lengths.Lengths.{Lengths}
use Rattle.samr_problem.specs.Capped.{capped, capped_lengths, AreSmall}
use Rattle.samr_problem.specs.Lengths.{refined, lengths_of, has_cell, has_plane, fits_in, fits_along, cells_in, sizes}

-- a factor that stops at a bound does not change a product that does
pub capped_product : (m p c : ℕ) → min (min p m * c) m ≡ min (p * c) m
capped_product m p zero = let none : min p m * 0 ≡ p * 0 = omega arith in ap (λ x. min x m) none
capped_product m p (suc d) = elim (cases_lt m p) [
  | inl over ↦
      let stops : min p m ≡ m = omega arith in
      let one : 1 ≤ suc d = omega arith in
      let low : m * 1 ≤ m * suc d = mul-le-mul_left m one in
      let less : m ≤ p = omega arith in
      let more : m * suc d ≤ p * suc d = mul-le-mul_right (suc d) less in
      rw stops (omega (arith, low, more))
  | inr within ↦ let same : min p m ≡ p = omega arith in rw same refl
]

same_lt : (x l m : ℕ) → x < m → nat_lt x (min l m) ≡ nat_lt x l
same_lt x l m small = elim (cases_lt x l) [
  | inl below ↦ let low : x < min l m = omega arith in rw (lt-ltb x l below, lt-ltb x (min l m) low)
  | inr above ↦ let high : min l m ≤ x = omega arith in rw (le-ltb x l above, le-ltb x (min l m) high)
]

same_le : (x l m : ℕ) → x ≤ m → nat_le x (min l m) ≡ nat_le x l
same_le x l m small = elim (cases_lt l x) [
  | inl below ↦ let low : min l m < x = omega arith in rw (lt-leb x l below, lt-leb x (min l m) low)
  | inr above ↦ let high : x ≤ min l m = omega arith in rw (le-leb x l above, le-leb x (min l m) high)
]

same_plane : (l : ℕ) (z : ℤ) → unsigned_abs z < 2 ^ 64 - 1 → has_plane (capped l) z ≡ has_plane l z
same_plane l z small = ap (λ b. int_le (pos 0) z && b) (same_lt (unsigned_abs z) l (2 ^ 64 - 1) small)

same_size : (l : ℕ) (z : ℤ) → unsigned_abs z < 2 ^ 64 - 1 → fits_along (capped l) z ≡ fits_along l z
same_size l z small = let low : unsigned_abs z ≤ 2 ^ 64 - 1 = omega (arith, small) in ap (λ b. int_le (pos 1) z && b) (same_le (unsigned_abs z) l (2 ^ 64 - 1) low)

pub has_cell_capped : (l : Lengths) (x : IVec) → AreSmall x → has_cell (capped_lengths l) x ≡ has_cell l x
unfolding has_cell capped_lengths
has_cell_capped l x small = rw (same_plane l.i x.i small.i, same_plane l.j x.j small.j, same_plane l.k x.k small.k) refl

pub fits_in_capped : (l : Lengths) (x : IVec) → AreSmall x → fits_in (capped_lengths l) x ≡ fits_in l x
unfolding fits_in capped_lengths
fits_in_capped l x small = rw (same_size l.i x.i small.i, same_size l.j x.j small.j, same_size l.k x.k small.k) refl

-- both factors stop at the bound
both_capped : (m p c : ℕ) → min (min p m * min c m) m ≡ min (p * c) m
both_capped m p c =
    let turned : p * min c m ≡ min c m * p = omega arith in
    let back : c * p ≡ p * c = omega arith in
    capped_product m p (min c m) ∙ ap (λ x. min x m) turned ∙ capped_product m c p ∙ ap (λ x. min x m) back

pub large_capped : (most : ℕ) (l : Lengths) → most < 2 ^ 64 - 1
    → nat_lt most (capped (capped ((capped_lengths l).i * (capped_lengths l).j) * (capped_lengths l).k)) ≡ nat_lt most (cells_in l)
unfolding capped_lengths
large_capped most l small =
    ap (λ x. nat_lt most (capped (x * capped l.k))) (both_capped (2 ^ 64 - 1) l.i l.j)
    ∙ ap (nat_lt most) (both_capped (2 ^ 64 - 1) (l.i * l.j) l.k)
    ∙ same_lt most (cells_in l) (2 ^ 64 - 1) small

pub refined_capped : (l : Lengths) (r : IVec) → capped_lengths (refined (capped_lengths l) r) ≡ capped_lengths (refined l r)
unfolding capped_lengths
refined_capped l r =
    rw (capped_product (2 ^ 64 - 1) l.i (unsigned_abs r.i), capped_product (2 ^ 64 - 1) l.j (unsigned_abs r.j), capped_product (2 ^ 64 - 1) l.k (unsigned_abs r.k)) refl

-- one more ratio
pub lengths_more : (domain : IVec) (ratios : List IVec) (n : ℕ) (d : IVec) (before now : Lengths) → n < length ratios
    → before ≡ capped_lengths (lengths_of domain (take n ratios)) → now ≡ capped_lengths (refined before (get_or ratios n d))
    → now ≡ capped_lengths (lengths_of domain (take (n + 1) ratios))
unfolding lengths_of
lengths_more domain ratios n d before now below so_far step =
    step ∙ ap (λ l. capped_lengths (refined l (get_or ratios n d))) so_far
    ∙ refined_capped (fold refined (sizes domain) (take n ratios)) (get_or ratios n d)
    ∙ ap capped_lengths (sym (fold_more refined (sizes domain) ratios n d below))

pub same_le_64 : (x l : ℕ) → x ≤ 2 ^ 64 - 1 → nat_le x (min l (2 ^ 64 - 1)) ≡ nat_le x l
same_le_64 x l small = same_le x l (2 ^ 64 - 1) small
